-- What the entries say of the rules: of which rule an entry is the head, and that a step, which changes nodes alone, leaves it.
use Rattle.std.proofs.Common.{◌≡◌, ℕ, zero, suc, ◌<◌, ◌≤◌, List, [], ◌∷◌, length, Some, None, sym, subst, arith}
use Rattle.std.proofs.lemmas.Option.{none-some, same_Some}
use Rattle.std.specs.List.{slice_get}
use Rattle.language.specs.Tree.{Rule, rule_at}
use Rattle.language.specs.Walking.{Note, Stand}
use Rattle.records.specs.declared.entry.Entry.{Entry}
use Rattle.records.specs.Columns.{Columns}
use Rattle.records.specs.Laying.{columns_of}
use Rattle.walking.specs.declared.walker.Walker.{Walker}
use Rattle.walking.specs.Inferring.{HeadOf, Heads, HeadsIn}
use Rattle.walking.specs.Stepping.{Step}

module _ (p q : Columns) where
  head_by : (e : Entry) (r : Rule) → HeadOf p e r → HeadOf (record p { nodes = q.nodes }) e r
  head_by e r h = record { params = h.params; few = h.few; needs = h.needs; gives = h.gives }

  pub heads_by : (es : List Entry) (rs : List Rule) → Heads p es rs → Heads (record p { nodes = q.nodes }) es rs
  heads_by [] [] h = h
  heads_by [] (r ∷ rs) h = h
  heads_by (e ∷ es) [] h = h
  heads_by (e ∷ es) (r ∷ rs) h = (head_by e r h.0, heads_by es rs h.1)

module _ (l h : ℕ) (ns : List Note) (s : Stand) (w v : Walker) where
  pub head-stays : (e : Entry) (r : Rule) → Step l h ns s w v → HeadOf (columns_of w.debts.now.tables.now) e r → HeadOf (columns_of v.debts.now.tables.now) e r
  head-stays e r t x = subst (λ (c : Columns). HeadOf c e r) (sym t.columns.rest) (head_by (columns_of w.debts.now.tables.now) (columns_of v.debts.now.tables.now) e r x)

  pub heads-stay : (R : List Rule) → Step l h ns s w v → HeadsIn (columns_of w.debts.now.tables.now) R → HeadsIn (columns_of v.debts.now.tables.now) R
  heads-stay R t x =
      let p = columns_of w.debts.now.tables.now in
      subst (λ (c : Columns). HeadsIn c R) (sym t.columns.rest) (heads_by p (columns_of v.debts.now.tables.now) p.entries.entries R x)

-- the entry with a number is the rule's head, and past the last entry there is no rule
pub record Headed (c : Columns) (R : List Rule) (f : ℕ) (e : Entry) : Type 0 where
  pub head : HeadOf c e (rule_at R f)
  pub there : f < length R

pub headed : (c : Columns) (es : List Entry) (R : List Rule) (f : ℕ) (e : Entry) → Heads c es R → slice_get es f ≡ Some e → Headed c R f e
headed c [] R f e h g = absurd (none-some e g)
headed c (d ∷ es) [] f e h g = absurd h
headed c (d ∷ es) (r ∷ rs) zero e h g = record { head = subst (λ x. HeadOf c x r) (same_Some d e g) h.0; there = omega arith }
headed c (d ∷ es) (r ∷ rs) (suc f) e h g = let x = headed c es rs f e h.1 g in record { head = x.head; there = omega (arith, x.there) }

pub none_past : (c : Columns) (es : List Entry) (R : List Rule) (f : ℕ) → Heads c es R → slice_get es f ≡ None → length R ≤ f
none_past c [] [] f h g = omega arith
none_past c [] (r ∷ rs) f h g = absurd h
none_past c (d ∷ es) [] f h g = absurd h
none_past c (d ∷ es) (r ∷ rs) zero h g = absurd (none-some d (sym g))
none_past c (d ∷ es) (r ∷ rs) (suc f) h g = let x = none_past c es rs f h.1 g in omega (arith, x)
