-- Conditions that become facts one after another, with others still to come.
use Rattle.std.proofs.Common.{◌≡◌, ℕ, List, [], ◌∷◌, ◌++◌, map, Some, None, Option, Ok, Err, sym, refl, ap, ◌∙◌, subst}
use Rattle.std.proofs.lemmas.List.{append-nil, append_assoc}
use Rattle.rows.specs.declared.row.Row.{Row}
use Rattle.language.specs.declared.refusal.Refusal.{Refusal}
use Rattle.language.specs.declared.term.Term.{Term}
use Rattle.language.specs.Comparing.{condition_rows}
use Rattle.language.specs.Tree as Tree
use Rattle.language.specs.Walking.{Known, Note, assume, assume_all, first_fault}
use Rattle.language.proofs.Laws.{fault-first, fault-next}
use Rattle.records.specs.declared.condition.Condition.{Condition}
use Rattle.records.specs.Columns.{Columns}
use Rattle.records.specs.Tables.{stretch, condition_in, conditions_in}
use Rattle.std.specs.Option.{unwrap_or}
use Rattle.walking.specs.Knowing.{Took, placed}

-- facts are added at the end
pub facts-more : (place : ℕ) (facts : List Row) (rs : List (Option Row)) → (more : List Row) × ((assume place facts rs).facts ≡ facts ++ more)
unfolding assume
facts-more place facts [] = ([], sym (append-nil facts))
facts-more place facts (None ∷ rs) = facts-more place facts rs
facts-more place facts (Some row ∷ rs) = let m = facts-more place (facts ++ row ∷ []) rs in (row ∷ m.0, m.1 ∙ append_assoc facts (row ∷ []) m.0)

module _ (at : Tree.Condition → ℕ) (ts : List Term) (r : Term) where
  -- so much of the whole is taken, and these conditions are to come
  pub record Taking (whole : Known) (rest : List Tree.Condition) (before now : List Row) : Type 0 where
    pub so : List Note
    pub faultless : first_fault so ≡ None
    pub notes : whole.notes ≡ so ++ (assume_all at ts r now rest).notes
    pub facts : whole.facts ≡ (assume_all at ts r now rest).facts
    pub more : (xs : List Row) × (now ≡ before ++ xs)

  taking_none : (cs : List Tree.Condition) (facts : List Row) → Taking (assume_all at ts r facts cs) cs facts facts
  unfolding first_fault
  taking_none cs facts = record { so = []; faultless = refl; notes = refl; facts = refl; more = ([], sym (append-nil facts)) }

  -- all the conditions of a stretch are to come
  pub taking_all : (p : Columns) (left : List Condition) (from to : ℕ) (facts : List Row) → left ≡ stretch p.conditions.entries from to → Taking (assume_all at ts r facts (conditions_in p.items.entries p.conditions.entries from to)) (map (condition_in p.items.entries) left) facts facts
  unfolding conditions_in
  taking_all p left from to facts e =
      let all = map (condition_in p.items.entries) (stretch p.conditions.entries from to) in
      subst (λ xs. Taking (assume_all at ts r facts all) (map (condition_in p.items.entries) xs) facts facts) (sym e) (taking_none all facts)

  all_notes : (c : Tree.Condition) (cs : List Tree.Condition) (facts : List Row) → (assume_all at ts r facts (c ∷ cs)).notes ≡ (assume (at c) facts (condition_rows ts r c)).notes ++ (assume_all at ts r (assume (at c) facts (condition_rows ts r c)).facts cs).notes
  unfolding assume_all
  all_notes c cs facts = refl

  all_facts : (c : Tree.Condition) (cs : List Tree.Condition) (facts : List Row) → (assume_all at ts r facts (c ∷ cs)).facts ≡ (assume_all at ts r (assume (at c) facts (condition_rows ts r c)).facts cs).facts
  unfolding assume_all
  all_facts c cs facts = refl

  pub taking_turn : (whole : Known) (c : Tree.Condition) (cs : List Tree.Condition) (before now after : List Row) → Taking whole (c ∷ cs) before now → Took (Ok tt) (assume (at c) now (condition_rows ts r c)) now after → Taking whole cs before after
  taking_turn whole c cs before now after g t =
      let k = assume (at c) now (condition_rows ts r c) in
      let m = facts-more (at c) now (condition_rows ts r c) in record {
        so = g.so ++ k.notes;
        faultless = fault-next g.so k.notes g.faultless ∙ t.0;
        notes = g.notes ∙ ap (λ ns. g.so ++ ns) (all_notes c cs now ∙ ap (λ fs. k.notes ++ (assume_all at ts r fs cs).notes) (sym t.1)) ∙ sym (append_assoc g.so k.notes _);
        facts = g.facts ∙ all_facts c cs now ∙ ap (λ fs. (assume_all at ts r fs cs).facts) (sym t.1);
        more = (g.more.0 ++ m.0, t.1 ∙ m.1 ∙ ap (λ xs. xs ++ m.0) g.more.1 ∙ append_assoc before g.more.0 m.0);
      }

  pub taking_break : (whole : Known) (e : Refusal) (c : Tree.Condition) (cs : List Tree.Condition) (before now after : List Row) → Taking whole (c ∷ cs) before now → Took (Err e) (assume (at c) now (condition_rows ts r c)) now after → Took (Err e) whole before after
  taking_break whole e c cs before now after g t =
      let k = assume (at c) now (condition_rows ts r c) in (
        ap first_fault (g.notes ∙ ap (λ ns. g.so ++ ns) (all_notes c cs now)) ∙ fault-next g.so _ g.faultless ∙ fault-first k.notes _ e t.0,
        (g.more.0 ++ t.1.0, t.1.1 ∙ ap (λ xs. xs ++ t.1.0) g.more.1 ∙ append_assoc before g.more.0 t.1.0),
      )

  pub taking-end : (whole : Known) (before now : List Row) → Taking whole [] before now → Took (Ok tt) whole before now
  unfolding assume_all
  taking-end whole before now g = (ap first_fault (g.notes ∙ append-nil g.so) ∙ g.faultless, sym g.facts)

-- the place at which a condition becomes a fact
pub placed-at : (place : Option ℕ) (c : Tree.Condition) → unwrap_or place c.place ≡ placed place c
placed-at (Some p) c = refl
placed-at None c = refl
