-- Rows that are owed one after another, with others still to come.
use Rattle.std.proofs.Common.{◌≡◌, ℕ, ◌+◌, ◌-◌, ◌<◌, ◌≤◌, List, [], ◌∷◌, ◌++◌, map, length, min, take, drop, get_or, Some, Option, sym, refl, ap, ◌∙◌, subst, ap₂, inl, inr, arith}
use Rattle.std.proofs.Math.Nat.{min-eq_left, min-eq_right}
use Rattle.std.proofs.lemmas.Bool.{cases_lt}
use Rattle.std.proofs.lemmas.List.{append-nil, append_assoc, take_all, length-drop}
use Rattle.std.proofs.lemmas.List.Concat.{flat_map-cons}
use Rattle.std.specs.List.{slice_get, flat_map}
use Rattle.rows.specs.declared.row.Row.{Row}
use Rattle.language.specs.declared.duty.Duty.TheVariants.{Guard}
use Rattle.language.specs.declared.refusal.Refusal.{Refusal}
use Rattle.language.specs.declared.term.Term.{Term}
use Rattle.language.specs.Comparing.{condition_rows}
use Rattle.language.specs.Tree as Tree
use Rattle.language.specs.Walking.{Owing, owe, owe_all}
use Rattle.records.specs.declared.condition.Condition.{Condition}
use Rattle.records.specs.declared.laid.Laid.{Laid}
use Rattle.records.specs.Columns.{Columns, no_condition}
use Rattle.records.specs.Tables.{condition_in, conditions_in}
use Rattle.walking.specs.Owing.{Spacious, Pays, Breaks}
use Rattle.std.proofs.lemmas.Option.{slice_get-get_or}
use Rattle.terms.specs.declared.rowlist.Rows.{Rows}
use Rattle.terms.specs.Listed.{list_of}
use Rattle.walking.specs.Sides.{RowsAt, rows_in}
use Rattle.walking.proofs.Owings.{pays-none, pays-then, breaks-then, breaks-first}
use Rattle.records.specs.Laying.{columns_of, owed_of}
use Rattle.records.proofs.Stretches.{cut}
use Rattle.records.specs.Tables.{stretch}

module _ (place : ℕ) (facts : List Row) where
  notes-append : (xs ys : List (Option Row)) (n : ℕ) → (owe_all place facts n (xs ++ ys)).notes ≡ (owe_all place facts n xs).notes ++ (owe_all place facts (owe_all place facts n xs).count ys).notes
  unfolding owe_all
  notes-append [] ys n = refl
  notes-append (x ∷ xs) ys n =
      let o = owe Guard place place facts n x in
      ap (λ ns. o.notes ++ ns) (notes-append xs ys o.count) ∙ sym (append_assoc o.notes (owe_all place facts o.count xs).notes _)

  count-append : (xs ys : List (Option Row)) (n : ℕ) → (owe_all place facts n (xs ++ ys)).count ≡ (owe_all place facts (owe_all place facts n xs).count ys).count
  unfolding owe_all
  count-append [] ys n = refl
  count-append (x ∷ xs) ys n = count-append xs ys (owe Guard place place facts n x).count

  -- so much of the whole is owed, and the rest is to come
  pub record Going (whole : Owing) (rest : List (Option Row)) (t u : Laid) : Type 0 where
    pub so : Owing
    pub paid : Pays so t u
    pub notes : whole.notes ≡ so.notes ++ (owe_all place facts so.count rest).notes
    pub count : whole.count ≡ (owe_all place facts so.count rest).count

  pub going_none : (rs : List (Option Row)) (t : Laid) → Going (owe_all place facts (owed_of t) rs) rs t t
  going_none rs t = record { so = record { count = owed_of t; notes = [] }; paid = pays-none t; notes = refl; count = refl }

  pub going_turn : (whole : Owing) (xs ys : List (Option Row)) (t u v : Laid) → Going whole (xs ++ ys) t u → Pays (owe_all place facts (owed_of u) xs) u v → Going whole ys t v
  going_turn whole xs ys t u v g p =
      let q : Pays (owe_all place facts g.so.count xs) u v = subst (λ n. Pays (owe_all place facts n xs) u v) g.paid.count p in record {
        so = record { count = (owe_all place facts g.so.count xs).count; notes = g.so.notes ++ (owe_all place facts g.so.count xs).notes };
        paid = pays-then g.so (owe_all place facts g.so.count xs) t u v g.paid q;
        notes = g.notes ∙ ap (λ ns. g.so.notes ++ ns) (notes-append xs ys g.so.count) ∙ sym (append_assoc g.so.notes (owe_all place facts g.so.count xs).notes _);
        count = g.count ∙ count-append xs ys g.so.count;
      }

  pub going_break : (whole : Owing) (e : Refusal) (xs ys : List (Option Row)) (t u v : Laid) → Going whole (xs ++ ys) t u → Breaks e (owe_all place facts (owed_of u) xs).notes u v → Breaks e whole.notes t v
  going_break whole e xs ys t u v g b =
      let q : Breaks e (owe_all place facts g.so.count xs).notes u v = subst (λ n. Breaks e (owe_all place facts n xs).notes u v) g.paid.count b in
      subst (λ ns. Breaks e ns t v) (sym (g.notes ∙ ap (λ ns. g.so.notes ++ ns) (notes-append xs ys g.so.count)))
      (breaks-then e g.so _ t u v g.paid (breaks-first e (owe_all place facts g.so.count xs).notes _ u v q))

  pub going-end : (whole : Owing) (t u : Laid) → Going whole [] t u → Pays whole t u
  unfolding owe_all
  going-end whole t u g =
      subst (λ (o : Owing). Pays o t u) (sym (ap₂ (λ n ns. record { count = n; notes = ns }) g.count (g.notes ∙ append-nil g.so.notes))) g.paid

-- a stretch goes no further than its table
as_far : {X : Type 0} (xs : List X) (from to : ℕ) → stretch xs from to ≡ stretch xs from (min to (length xs))
as_far xs from to = elim (cases_lt (length xs) to) [
  | inl h ↦ take_all (to - from) (drop from xs) (omega (arith, length-drop from xs)) ∙ sym (take_all (length xs - from) (drop from xs) (omega (arith, length-drop from xs))) ∙ ap (λ n. take (n - from) (drop from xs)) (sym (min-eq_right {n = length xs} {m = to} (omega arith)))
  | inr h ↦ ap (λ n. take (n - from) (drop from xs)) (sym (min-eq_left {n = to} {m = length xs} h))
]

-- the rows of the first condition, and then those of the others
module _ (p : Columns) (ts : List Term) (r : Term) where
  pub rows-step : (from to : ℕ) (c : Condition) → from < to → slice_get p.conditions.entries from ≡ Some c → rows_in p ts r from to ≡ condition_rows ts r (condition_in p.items.entries c) ++ rows_in p ts r (from + 1) to
  unfolding rows_in conditions_in
  rows-step from to c h e = ap (λ cs. rows (map (condition_in p.items.entries) cs)) (cut p.conditions.entries from to c h e) ∙ flat_map-cons (condition_rows ts r) (condition_in p.items.entries c) _
    where
      rows : List Tree.Condition → List (Option Row)
      rows cs = flat_map (condition_rows ts r) cs

  pub rows-here : (rows : Rows) (from to : ℕ) → from < to → to ≤ length p.conditions.entries → RowsAt rows ts r p.items.entries p.conditions.entries from → rows_in p ts r from to ≡ list_of rows ++ rows_in p ts r (from + 1) to
  rows-here rows from to h l w =
      let c = get_or p.conditions.entries from no_condition in
      let e = slice_get-get_or p.conditions.entries from no_condition (omega arith) in
      rows-step from to c h e ∙ ap (λ xs. xs ++ rows_in p ts r (from + 1) to) (sym (w c e))

  pub rows-none : (from to : ℕ) → to ≤ from → rows_in p ts r from to ≡ []
  unfolding rows_in conditions_in
  rows-none from to h = ap (λ n. flat_map (condition_rows ts r) (map (condition_in p.items.entries) (take n (drop from p.conditions.entries)))) (let z : to - from ≡ 0 = omega arith in z)

  pub rows-as-far : (from to : ℕ) → rows_in p ts r from to ≡ rows_in p ts r from (min to (length p.conditions.entries))
  unfolding rows_in conditions_in
  rows-as-far from to = ap (λ cs. flat_map (condition_rows ts r) (map (condition_in p.items.entries) cs)) (as_far p.conditions.entries from to)

-- a table with the same columns has as many records
pub spacious-on : (t u : Laid) → columns_of u ≡ columns_of t → Spacious t → Spacious u
spacious-on t u e s = let r = ap (λ (c : Columns). c.nodes.room) e in omega arith
