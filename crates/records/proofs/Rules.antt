-- Rules that stand still stand when tables grow, and are what the tables are read as.
use Rattle.std.proofs.Common.{◌≡◌, ℕ, suc, ◌≤◌, List, [], ◌∷◌, ◌++◌, map, length, refl, ap, ◌∙◌, ap₂, arith}
use Rattle.std.proofs.lemmas.List.{length-append}
use Rattle.language.specs.Tree.{Rule}
use Rattle.records.specs.declared.entry.Param.{Param}
use Rattle.records.specs.declared.entry.Entry.{Entry}
use Rattle.records.specs.Tables.{Tables, stretch, param_of}
use Rattle.records.specs.Trees.{reader_of, expr_in, rule_in, rules_in}
use Rattle.records.specs.Standing.{Grows}
use Rattle.records.specs.Rules.{RuleStands, RulesStand}
use Rattle.records.proofs.Stretches.{stays}
use Rattle.records.proofs.Standing.{More, listed-on, stands_on, wider, reads-expr}

pub rule-on : (s t : Tables) (ps qs : List Param) (lo : ℕ) (e : Entry) (r : Rule) → Grows s t → More ps qs → RuleStands s ps lo e r → RuleStands t qs lo e r
rule-on s t ps qs lo e r g m x = record {
  place = x.place;
  within = omega (arith, x.within, ap length m.1, length-append ps m.0);
  params = ap (λ l. map param_of (stretch l e.params.from e.params.to)) m.1 ∙ ap (map param_of) (stays ps m.0 e.params.from e.params.to x.within) ∙ x.params;
  needs = listed-on s t _ _ _ g x.needs;
  gives = listed-on s t _ _ _ g x.gives;
  below = omega (arith, x.below, ap length g.nodes.1, length-append s.nodes g.nodes.0);
  body = stands_on s t _ _ _ g x.body;
}

pub rules-on : (s t : Tables) (ps qs : List Param) (lo : ℕ) (es : List Entry) (rs : List Rule) → Grows s t → More ps qs → RulesStand s ps lo es rs → RulesStand t qs lo es rs
rules-on s t ps qs lo [] [] g m x = tt
rules-on s t ps qs lo [] (r ∷ rs) g m x = x
rules-on s t ps qs lo (e ∷ es) [] g m x = x
rules-on s t ps qs lo (e ∷ es) (r ∷ rs) g m x = (rule-on s t ps qs lo e r g m x.0, rules-on s t ps qs (suc e.body) es rs g m x.1)

-- the body lies from any lower position on
pub rule-wider : (t : Tables) (ps : List Param) (l lo : ℕ) (e : Entry) (r : Rule) → l ≤ lo → RuleStands t ps lo e r → RuleStands t ps l e r
rule-wider t ps l lo e r h x = record { place = x.place; within = x.within; params = x.params; needs = x.needs; gives = x.gives; below = x.below; body = wider t l lo e.body r.body h x.body }

-- another rule stands after them, where its nodes are new
pub rules-more : (s t : Tables) (ps qs : List Param) (lo : ℕ) (es : List Entry) (rs : List Rule) (e : Entry) (r : Rule) → Grows s t → More ps qs → lo ≤ length s.nodes → RulesStand s ps lo es rs → RuleStands t qs (length s.nodes) e r → RulesStand t qs lo (es ++ e ∷ []) (rs ++ r ∷ [])
rules-more s t ps qs lo [] [] e r g m l x y = (rule-wider t qs lo (length s.nodes) e r l y, tt)
rules-more s t ps qs lo [] (q ∷ rs) e r g m l x y = absurd x
rules-more s t ps qs lo (d ∷ es) [] e r g m l x y = absurd x
rules-more s t ps qs lo (d ∷ es) (q ∷ rs) e r g m l x y = let b = x.0.below in (rule-on s t ps qs lo d q g m x.0, rules-more s t ps qs (suc d.body) es rs e r g m (omega arith) x.1 y)

pub rules-length : (t : Tables) (ps : List Param) (lo : ℕ) (es : List Entry) (rs : List Rule) → RulesStand t ps lo es rs → length es ≡ length rs
rules-length t ps lo [] [] x = refl
rules-length t ps lo [] (r ∷ rs) x = absurd x
rules-length t ps lo (e ∷ es) [] x = absurd x
rules-length t ps lo (e ∷ es) (r ∷ rs) x = let h = rules-length t ps (suc e.body) es rs x.1 in omega arith

pub reads-rule : (t : Tables) (ps : List Param) (lo : ℕ) (e : Entry) (r : Rule) → RuleStands t ps lo e r → rule_in t ps e ≡ r
reads-rule t ps lo e r x =
    ap₂ (λ p a. record { place = p; params = a; needs = reader_of t e.needs.from e.needs.to; gives = reader_of t e.gives.from e.gives.to; body = expr_in t (length t.nodes) e.body }) x.place x.params
    ∙ ap₂ (λ n g. record { place = r.place; params = r.params; needs = n; gives = g; body = expr_in t (length t.nodes) e.body }) x.needs.reads x.gives.reads
    ∙ ap (λ b. record { place = r.place; params = r.params; needs = r.needs; gives = r.gives; body = b }) (reads-expr t (length t.nodes) lo e.body r.body x.below x.body)

pub reads-rules : (t : Tables) (ps : List Param) (lo : ℕ) (es : List Entry) (rs : List Rule) → RulesStand t ps lo es rs → rules_in t ps es ≡ rs
reads-rules t ps lo [] [] x = refl
reads-rules t ps lo [] (r ∷ rs) x = absurd x
reads-rules t ps lo (e ∷ es) [] x = absurd x
reads-rules t ps lo (e ∷ es) (r ∷ rs) x = ap₂ ◌∷◌ (reads-rule t ps lo e r x.0) (reads-rules t ps (suc e.body) es rs x.1)
