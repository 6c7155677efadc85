-- Rules, one after the other.
use Rattle.std.proofs.Common.{◌≡◌, ℕ, suc, true, false, [], ◌∷◌, ◌++◌, Ok, Err, sym, refl, ap, ◌∙◌, subst}
use Rattle.letters.specs.declared.kind.Kind.TheVariants.{Rule, End}
use Rattle.letters.specs.declared.token.Token.{Token}
use Rattle.grammar.specs.declared.misplaced.Misplaced.{Misplaced}
use Rattle.grammar.specs.declared.node.Node.{Node}
use Rattle.grammar.specs.Raw.{Sheet}
use Rattle.grammar.specs.Parsers.{Look, Ans, done, fault, is_a, chain}
use Rattle.grammar.specs.Sheets.{rule_s, rule_on, sheet_s}
use Rattle.grammar.specs.Trees.{look_of}
use Rattle.grammar.specs.Held.{Held, look, token_count, sheet, Comes, Failed, RuleStands, Went, Bumped, Pushed}
use Rattle.grammar.specs.Parsed.{Done}
use Rattle.grammar.proofs.Loops.{chain-chained}
use Rattle.grammar.proofs.Comings.{given, stopped, seq-comes, seq-faults, yes-comes, no-comes, turn-comes, turn-faults, turn-ends}
use Rattle.grammar.proofs.Laws.{bumped-lasts}
use Rattle.grammar.proofs.Makes.{pushed-rules}

-- what comes of the rules so far comes of none
pub record Ruling (s0 s : Held) : Type 0 where
  pub lender : s.lender ≡ s0.lender
  pub same : s.source ≡ s0.source
  pub size : token_count s ≡ token_count s0
  pub on : (a : Ans Sheet) → Comes (λ f. chain (is_a Rule) rule_on f (sheet s)) (look s) s.at a → Comes (λ f. chain (is_a Rule) rule_on f []) (look s0) s0.at a

pub ruling-start : (s : Held) → sheet s ≡ [] → Ruling s s
ruling-start s e = record { lender = refl; same = refl; size = refl; on = λ a c. subst (λ (rs : Sheet). Comes (λ f. chain (is_a Rule) rule_on f rs) (look s) s.at a) e c }

module _ {s0 s s1 : Held} {t : ℕ} (u : Ruling s0 s) (e : true ≡ is_a Rule (look s s.at)) (q : t ≡ s.at) (b : Bumped s s1) where
  -- the keyword, which the rule has
  tok : look s1 t ≡ look s s.at
  tok = ap (λ c. look_of c t) b.same ∙ ap (look s) q

  pub ruled-err : {m : Misplaced} {s2 : Held} → Went RuleStands (Err m) (rule_s (look s1 t)) s1 s2 → Failed m.place sheet_s s0
  ruled-err {m} v =
      let f = v.told in
      let c0 : Comes (rule_s (look s1 t)) (look s) (suc s.at) (fault f.faulty) = subst (λ (l : Look). Comes (rule_s (look s1 t)) l (suc s.at) (fault f.faulty)) (ap look_of b.same) (subst (λ i. Comes (rule_s (look s1 t)) (look s1) i (fault f.faulty)) b.at f.came) in
      let c1 : Comes (rule_s (look s s.at)) (look s) (suc s.at) (fault f.faulty) = subst (λ (x : Token). Comes (rule_s x) (look s) (suc s.at) (fault f.faulty)) tok c0 in
      let c2 = turn-faults (look s) (chain-chained (is_a Rule) rule_on) (sheet s) s.at f.faulty (sym e) (seq-faults (look s) (rule_s (look s s.at)) _ (suc s.at) f.faulty c1) in
      record { faulty = f.faulty; came = seq-faults (look s0) _ _ s0.at f.faulty (u.on _ c2); place = f.place ∙ ap (λ c. (look_of c f.faulty).place) (b.same ∙ u.same) }

  pub ruled-on : {n : Node} {p : ℕ} {s2 s3 : Held} → Went RuleStands (Ok n) (rule_s (look s1 t)) s1 s2 → Pushed p n s2 s3 → Ruling s0 s3
  ruled-on {n} {p} {s2} {s3} v h =
      let f = v.told in
      let same : s3.source ≡ s.source = h.same ∙ f.lasts.same ∙ b.same in
      let c0 : Comes (rule_s (look s1 t)) (look s) (suc s.at) (done f.val s2.at) = subst (λ (l : Look). Comes (rule_s (look s1 t)) l (suc s.at) (done f.val s2.at)) (ap look_of b.same) (subst (λ i. Comes (rule_s (look s1 t)) (look s1) i (done f.val s2.at)) b.at f.came) in
      let c1 : Comes (rule_s (look s s.at)) (look s) (suc s.at) (done f.val s2.at) = subst (λ (x : Token). Comes (rule_s x) (look s) (suc s.at) (done f.val s2.at)) tok c0 in
      let c2 : Comes (λ f. rule_on f (sheet s) (look s s.at)) (look s) (suc s.at) (done (sheet s ++ f.val ∷ []) s2.at) = seq-comes (look s) (rule_s (look s s.at)) _ (suc s.at) f.val s2.at _ c1 (given (look s) _ s2.at) in
      let rules : sheet s3 ≡ sheet s ++ f.val ∷ [] = pushed-rules h ∙ ap (λ rs. sheet s2 ++ rs) f.rel ∙ ap (λ rs. rs ++ f.val ∷ []) (f.lasts.rules ∙ (bumped-lasts b).rules) in
      record {
        lender = h.lender ∙ v.lender ∙ b.lender ∙ u.lender;
        same = same ∙ u.same;
        size = h.size ∙ v.size ∙ b.size ∙ u.size;
        on = λ a c. u.on a (turn-comes (look s) (chain-chained (is_a Rule) rule_on) (sheet s) s.at (sheet s ++ f.val ∷ []) s2.at a (sym e) c2
            (subst (λ i. Comes (λ f. chain (is_a Rule) rule_on f (sheet s ++ v.told.val ∷ [])) (look s) i a) h.at
            (subst (λ (l : Look). Comes (λ f. chain (is_a Rule) rule_on f (sheet s ++ v.told.val ∷ [])) l s3.at a) (ap look_of same)
            (subst (λ (rs : Sheet). Comes (λ f. chain (is_a Rule) rule_on f rs) (look s3) s3.at a) rules c))));
      }

module _ {s0 s : Held} (u : Ruling s0 s) (e : false ≡ is_a Rule (look s s.at)) where
  all : Comes (λ f. chain (is_a Rule) rule_on f []) (look s0) s0.at (done (sheet s) s.at)
  all = u.on _ (turn-ends (look s) (chain-chained (is_a Rule) rule_on) (sheet s) s.at (sym e))

  same-look : look s ≡ look s0
  same-look = ap look_of u.same

  pub ruled-end : true ≡ is_a End (look s s.at) → Done s0 s
  ruled-end h = record { last = s.at; came = seq-comes (look s0) (λ f. chain (is_a Rule) rule_on f []) _ s0.at (sheet s) s.at _ all (yes-comes (look s0) (is_a End) _ _ s.at _ (ap (λ (l : Look). is_a End (l s.at)) (sym same-look) ∙ sym h) (given (look s0) (sheet s) s.at)); same = u.same }

  pub ruled-not : {w : ℕ} → false ≡ is_a End (look s s.at) → w ≡ (look s s.at).place → Failed w sheet_s s0
  ruled-not h p = record { faulty = s.at; came = seq-comes (look s0) (λ f. chain (is_a Rule) rule_on f []) _ s0.at (sheet s) s.at _ all (no-comes (look s0) (is_a End) _ _ s.at _ (ap (λ (l : Look). is_a End (l s.at)) (sym same-look) ∙ sym h) (stopped (look s0) s.at)); place = p ∙ ap (λ (l : Look). (l s.at).place) same-look }
