-- The first condition that is broken.
use Rattle.std.proofs.Common.{◌≡◌, ℕ, suc, ◌+◌, ◌<◌, ◌≤◌, true, false, cond, List, map, ℤ, pos, Some, None, sym, ap, ◌∙◌, arith}
use Rattle.std.specs.List.{slice_get}
use Rattle.language.specs.Comparing.{satisfied}
use Rattle.language.specs.Entering.{first_broken}
use Rattle.records.specs.declared.condition.Condition.{Condition}
use Rattle.records.specs.declared.condition.Item.{Item}
use Rattle.records.specs.Tables.{condition_in, conditions_in}
use Rattle.records.proofs.Stretches.{cut}
use Rattle.entering.proofs.Ends.{ended, past}

module _ (items : List Item) (cs : List Condition) (values : List ℤ) (number at to : ℕ) where
  pub none_here : to ≤ at → None ≡ first_broken number values (conditions_in items cs at to)
  unfolding first_broken conditions_in
  none_here h = sym (ap (λ l. first_broken number values (map (condition_in items) l)) (ended cs at to h))

  pub none_past : slice_get cs at ≡ None → None ≡ first_broken number values (conditions_in items cs at to)
  unfolding first_broken conditions_in
  none_past e = sym (ap (λ l. first_broken number values (map (condition_in items) l)) (past cs at to e))

  module _ (c : Condition) (h : at < to) (e : slice_get cs at ≡ Some c) where
    here : first_broken number values (conditions_in items cs at to) ≡ cond (satisfied values (pos 0) (condition_in items c)) (first_broken (suc number) values (conditions_in items cs (at + 1) to)) (Some number)
    unfolding first_broken conditions_in
    here = ap (λ l. first_broken number values (map (condition_in items) l)) (cut cs at to c h e)

    pub broken_here : false ≡ satisfied values (pos 0) (condition_in items c) → Some number ≡ first_broken number values (conditions_in items cs at to)
    broken_here b = sym (here ∙ ap (λ b. cond b (first_broken (suc number) values (conditions_in items cs (at + 1) to)) (Some number)) (sym b))

    pub broken_later : true ≡ satisfied values (pos 0) (condition_in items c) → first_broken (number + 1) values (conditions_in items cs (at + 1) to) ≡ first_broken number values (conditions_in items cs at to)
    broken_later b = sym (here ∙ ap (λ b. cond b (first_broken (suc number) values (conditions_in items cs (at + 1) to)) (Some number)) (sym b) ∙ ap (λ n. first_broken n values (conditions_in items cs (at + 1) to)) (let z : suc number ≡ number + 1 = omega arith in z))
