-- Rules that stand in records, as the bodies that a run needs.
use Rattle.std.proofs.Common.{◌≡◌, ℕ, ◌*◌, ◌<◌, ◌≤◌, List, [], ◌∷◌, refl, get_or, map, length, Some, sym, ap, ◌∙◌, subst, arith}
use Rattle.std.proofs.lemmas.List.{get_or-map, length-map}
use Rattle.std.proofs.Math.ListN.{get_or-append}
use Rattle.std.proofs.lemmas.Option.{slice_get-get_or, slice_get_within, get_or_from_slice_get}
use Rattle.std.specs.List.{slice_get}
use Rattle.language.specs.Tree.{Expr, Rule, no_expr, no_rule}
use Rattle.records.specs.declared.entry.Entry.{Entry}
use Rattle.records.specs.declared.record.Record.{Record}
use Rattle.records.specs.Columns.{entries_in, no_entry, params_in, tables_in}
use Rattle.records.specs.Rules.{RulesStand}
use Rattle.records.specs.Standing.{Stands}
use Rattle.records.specs.Tables.{Tables}
use Rattle.records.specs.declared.entry.Param.{Param}
use Rattle.records.specs.Slots.{length-slots, slots_more}
use Rattle.records.proofs.Inverting.{rule_of}
use Rattle.running.specs.Standing.{Few, Body, Book, all_entries}

-- there are as many rules as entries
as_many : (t : Tables) (ps : List Param) (lo : ℕ) (es : List Entry) (rs : List Rule) → RulesStand t ps lo es rs → length rs ≡ length es
as_many t ps lo [] [] s = refl
as_many t ps lo [] (r ∷ rs) s = absurd s
as_many t ps lo (e ∷ es) [] s = absurd s
as_many t ps lo (e ∷ es) (r ∷ rs) s = let m = as_many t ps _ es rs s.1 in omega (arith, m)

pub entry_all : (r : List Record) (n f : ℕ) (e : Entry) → n ≤ 4 * length r → slice_get (entries_in r n) f ≡ Some e → slice_get (all_entries r) f ≡ Some e
entry_all r n f e h g =
    let m = slots_more (λ (z : Record). z.entries) no_entry r n (4 * length r) h in
    let l = length-slots (λ (z : Record). z.entries) no_entry r n in
    let a = length-slots (λ (z : Record). z.entries) no_entry r (4 * length r) in
    let k = slice_get_within (entries_in r n) f e g in
    let x = get_or-append (entries_in r n) m.0 e f k in
    slice_get-get_or (all_entries r) f e (omega (arith, l, a, k)) ∙ ap Some (ap (λ xs. get_or xs f e) m.1 ∙ x ∙ get_or_from_slice_get (entries_in r n) f e e g)

-- the bodies of rules that stand in records, where each keeps to its calls and lies below the most positions
module _ (r : List Record) (n lo : ℕ) (rules : List Rule) (within : n ≤ 4 * length r) (stand : RulesStand (tables_in r) (params_in r) lo (entries_in r n) rules)
    (below : (f : ℕ) (e : Entry) → slice_get (entries_in r n) f ≡ Some e → e.body < 16384) (few : (f : ℕ) (rule : Rule) → slice_get rules f ≡ Some rule → Few (length rules) rule.body) where
  bodies : List Expr
  bodies = map (λ (q : Rule). q.body) rules

  count : length bodies ≡ length rules
  unfolding bodies
  count = length-map rules (λ (q : Rule). q.body)

  body_of : (f : ℕ) → f < length bodies → Body r (length bodies) f (get_or bodies f no_expr)
  unfolding bodies
  body_of f h =
      let c = count in let m = as_many (tables_in r) (params_in r) lo (entries_in r n) rules stand in
      let e = get_or (entries_in r n) f no_entry in
      let g = slice_get-get_or (entries_in r n) f no_entry (omega (arith, c, m)) in
      let q = rule_of (tables_in r) (params_in r) lo (entries_in r n) rules f e stand g in
      let t = get_or-map (λ (q : Rule). q.body) rules f no_rule no_expr (omega (arith, c)) ∙ ap (λ (q : Rule). q.body) (get_or_from_slice_get rules f q.rule no_rule q.is) in
      record {
        entry = e;
        found = entry_all r n f e within g;
        below = below f e g;
        lo = q.from;
        stands = subst (Stands (tables_in r) q.from e.body) (sym t) q.stands.body;
        few = subst (λ k. Few k (get_or bodies f no_expr)) (sym c) (subst (Few (length rules)) (sym t) (few f q.rule q.is));
      }

  pub book_of : Book r
  unfolding bodies
  book_of = record { bodies = map (λ (q : Rule). q.body) rules; stand = body_of }

  pub bodies_of : book_of.bodies ≡ map (λ (q : Rule). q.body) rules
  unfolding book_of
  bodies_of = refl
