-- Each answer is one way through the code: what stands at the node at hand, how its parts were run, and the lemma that puts them together.
use Rattle.std.proofs.Common.{rules, ◌≡◌, ◌+◌, ◌-◌, ◌∷◌, [], ◌++◌, pos, Some, Ok, Err, length, arith, sym, refl, ap, ap₂, ◌∙◌, subst, w32, w64, to_z, of_z, true, false, slice_set, ⊎_elim}
use Rattle.std.proofs.Props.{props}
use Rattle.std.proofs.Math.Logic.{∥∥₁_elim}
use Rattle.std.proofs.lemmas.List.{length-append}
use Rattle.std.proofs.lemmas.Option.{none-some}
use Rattle.language.specs.declared.part.Part.{Part}
use Rattle.language.specs.Drafts.{marked}
use Rattle.language.specs.Vocabulary.{reckoned, holds}
use Rattle.language.specs.Running.{State, fit, touch, part_at, length_of, holding, quiet}
use Rattle.pile.specs.Entries.{entries, room}
use Rattle.running.specs.Ending.{Ends, Tame, state_of, program_of, outcome_of}
use Rattle.running.specs.Evaluating.{frame_of, node_in}
use Rattle.running.proofs.Ending.{tame_prop, short_prop, given-not, ends-as, ends-at, ends-from, ends-stop, ends-then, tame-first, tame-rest}
use Rattle.running.proofs.Here.{run_at, same_frame, runs_here, ends_here, beside_then}
use Rattle.running.proofs.Parts.{one_runs, one_stop, one_then, one_tame, two_runs, two_stop, two_next, two_stop_next, two_then, two_tame}
use Rattle.running.proofs.Arms.{fit_ends, load_ends, store_ends, calc_two, calc_ends, num_ends, name_ends, read_one, read_ends, bind_one, bind_body, body_below, bind_ends, held_frame, test_two, test_met, test_unmet, met_below, unmet_below, met_tame, unmet_tame, met_ends, unmet_ends, test_ends, put_two, put_rest, put_below, put_ends, claim_below, claim_runs, claim_ends, no_blank, no_end, no_value, no_lent}
use Rattle.running.proofs.Spending.{eval_stop, eval_deep, eval_then, node_runs}
use Rattle.running.proofs.Arguments.{argument_below, value_rest_below, value_runs, value_stop, value_room, value_next, value_gives, lent_rest_below, lent_room, lent_next, lent_gives, end_gives, no_arguments}
use Rattle.running.proofs.Called.{args_below, call_body, call_args, call_stop, call_short, callee_below, callee_runs, callee_stop, callee_ends, no_more}
use Rattle.running.proofs.runner.Runner.+arguments_call_eval_node.Goals as goal

pub arguments-eval-requires : goal.arguments-eval-requires
arguments-eval-requires t c =
    let f = c.args.frame in let left = c.args.left in let at = c.args.at in let w = c.args.self.now in let given = c.args.given.now in let lent = c.args.lent.now in
    ∥∥₁_elim c.requires.runs (Prim.hlevel (props, tame_prop, short_prop)) (λ g.
    let n = sym c.node_at.ensures ∙ c.in_ok-node.ensures.ok_part ∙ ap Some c.in-Value.is in
    (omega (arith, argument_below f left at given lent w g c.in-Value.argument c.in-Value.rest n, c.decreases), (∣ value_runs f left at given lent w g c.in-Value.argument c.in-Value.rest n ∣₁, (omega (arith, c.requires.base), (c.requires.short, (omega (arith, c.requires.room), omega (arith, c.requires.count)))))))

pub arguments-returns-in_err-x-in-Value-clause-gives : goal.arguments-returns-in_err-x-in-Value-clause-gives
arguments-returns-in_err-x-in-Value-clause-gives t c = λ g.
    let f = c.args.frame in let left = c.args.left in let at = c.args.at in let w = c.args.self.now in let given = c.args.given.now in let lent = c.args.lent.now in
    let n = sym c.node_at.ensures ∙ c.in_ok-node.ensures.ok_part ∙ ap Some c.in-Value.is in
    given-not c.in_err-x-in-Value.field-0.0 c.from_residual-in_err-x-in-Value.result _ _ _ _ _ _ w c.eval.new.self c.from_residual-in_err-x-in-Value.ensures.1 (value_stop f left at given lent w g c.in-Value.argument c.in-Value.rest n c.in_err-x-in-Value.field-0.0 c.eval.new.self c.in_err-x-in-Value.ensures.evals)

pub arguments-put-requires : goal.arguments-put-requires
arguments-put-requires t c =
    let f = c.args.frame in let left = c.args.left in let at = c.args.at in let w = c.args.self.now in let given = c.args.given.now in let lent = c.args.lent.now in
    ∥∥₁_elim c.requires.runs (Prim.hlevel (props, tame_prop, short_prop)) (λ g.
    let n = sym c.node_at.ensures ∙ c.in_ok-node.ensures.ok_part ∙ ap Some c.in-Value.is in
    value_room f left at given lent w g c.in-Value.argument c.in-Value.rest n)

pub arguments-arguments-requires : goal.arguments-arguments-requires
arguments-arguments-requires t c =
    let f = c.args.frame in let left = c.args.left in let at = c.args.at in let w = c.args.self.now in let given = c.args.given.now in let lent = c.args.lent.now in
    ∥∥₁_elim c.requires.runs (Prim.hlevel (props, tame_prop, short_prop)) (λ g.
    let n = sym c.node_at.ensures ∙ c.in_ok-node.ensures.ok_part ∙ ap Some c.in-Value.is in
    let bx = c.in_ok-x-in-Value.ensures.beside in let x = c.in_ok-x-in-Value.x in let v = c.eval.new.self in let nx : to_z w32 (of_z w32 x) ≡ x = search rules in
    let held = c.put.ensures.held ∙ ap (λ x. entries given ++ x ∷ []) nx in
    (omega (arith, value_rest_below f left at given lent w g c.in-Value.argument c.in-Value.rest n, c.decreases), (∣ value_next f left at given lent w g c.in-Value.argument c.in-Value.rest n x v c.in_ok-x-in-Value.ensures.evals bx c.put.new.pile held c.put.ensures.room ∣₁, (omega (arith, c.requires.base, ap length bx.values), (c.requires.short, (omega (arith, c.requires.room, ap length bx.values, bx.lent.room), omega (arith, c.requires.count, c.in_ok-x-in-Value.ensures.count)))))))

pub arguments-put-requires-in-Lent : goal.arguments-put-requires-in-Lent
arguments-put-requires-in-Lent t c =
    let f = c.args.frame in let left = c.args.left in let at = c.args.at in let w = c.args.self.now in let given = c.args.given.now in let lent = c.args.lent.now in
    ∥∥₁_elim c.requires.runs (Prim.hlevel (props, tame_prop, short_prop)) (λ g.
    let n = sym c.node_at.ensures ∙ c.in_ok-node.ensures.ok_part ∙ ap Some c.in-Lent.is in
    (lent_room f left at given lent w g c.in-Lent.list c.in-Lent.rest n).0)

pub arguments-put-requires-in-Lent-2 : goal.arguments-put-requires-in-Lent-2
arguments-put-requires-in-Lent-2 t c =
    let f = c.args.frame in let left = c.args.left in let at = c.args.at in let w = c.args.self.now in let given = c.args.given.now in let lent = c.args.lent.now in
    ∥∥₁_elim c.requires.runs (Prim.hlevel (props, tame_prop, short_prop)) (λ g.
    let n = sym c.node_at.ensures ∙ c.in_ok-node.ensures.ok_part ∙ ap Some c.in-Lent.is in
    (lent_room f left at given lent w g c.in-Lent.list c.in-Lent.rest n).1)

pub arguments-arguments-requires-in-Lent : goal.arguments-arguments-requires-in-Lent
arguments-arguments-requires-in-Lent t c =
    let f = c.args.frame in let left = c.args.left in let at = c.args.at in let w = c.args.self.now in let given = c.args.given.now in let lent = c.args.lent.now in
    ∥∥₁_elim c.requires.runs (Prim.hlevel (props, tame_prop, short_prop)) (λ g.
    let n = sym c.node_at.ensures ∙ c.in_ok-node.ensures.ok_part ∙ ap Some c.in-Lent.is in
    let x = c.length_of.result in let nx : to_z w32 (of_z w32 x) ≡ x = search rules in
    let held = c.put-in-Lent.ensures.held ∙ ap (λ x. entries given ++ x ∷ []) nx in
    let xe = c.length_of.ensures ∙ ap (λ (p : Part). length_of p) c.part_at-part.ensures in
    (omega (arith, lent_rest_below f left at given lent w g c.in-Lent.list c.in-Lent.rest n, c.decreases), (∣ lent_next f left at given lent w g c.in-Lent.list c.in-Lent.rest n c.put-in-Lent.new.pile c.put-in-Lent-2.new.pile x c.part_at-part.result xe c.part_at-part.ensures held c.put-in-Lent.ensures.room c.put-in-Lent-2.ensures.held c.put-in-Lent-2.ensures.room ∣₁, (omega (arith, c.requires.base), (c.requires.short, (omega (arith, c.requires.room), omega (arith, c.requires.count)))))))

pub arguments-returns-in_ok-x-in-Value-clause-gives : goal.arguments-returns-in_ok-x-in-Value-clause-gives
arguments-returns-in_ok-x-in-Value-clause-gives t c = λ g.
    let f = c.args.frame in let left = c.args.left in let at = c.args.at in let w = c.args.self.now in let given = c.args.given.now in let lent = c.args.lent.now in
    let n = sym c.node_at.ensures ∙ c.in_ok-node.ensures.ok_part ∙ ap Some c.in-Value.is in
    let bx = c.in_ok-x-in-Value.ensures.beside in let x = c.in_ok-x-in-Value.x in let v = c.eval.new.self in let nx : to_z w32 (of_z w32 x) ≡ x = search rules in
    let held = c.put.ensures.held ∙ ap (λ x. entries given ++ x ∷ []) nx in
    value_gives f left at given lent w g c.in-Value.argument c.in-Value.rest n x v c.in_ok-x-in-Value.ensures.evals bx c.put.new.pile held c.put.ensures.room c.arguments.result c.arguments.new.given c.arguments.new.lent c.arguments.new.self c.arguments.ensures.gives

pub arguments-returns-in-Lent-clause-gives : goal.arguments-returns-in-Lent-clause-gives
arguments-returns-in-Lent-clause-gives t c = λ g.
    let f = c.args.frame in let left = c.args.left in let at = c.args.at in let w = c.args.self.now in let given = c.args.given.now in let lent = c.args.lent.now in
    let n = sym c.node_at.ensures ∙ c.in_ok-node.ensures.ok_part ∙ ap Some c.in-Lent.is in
    let x = c.length_of.result in let nx : to_z w32 (of_z w32 x) ≡ x = search rules in
    let held = c.put-in-Lent.ensures.held ∙ ap (λ x. entries given ++ x ∷ []) nx in
    let xe = c.length_of.ensures ∙ ap (λ (p : Part). length_of p) c.part_at-part.ensures in
    lent_gives f left at given lent w g c.in-Lent.list c.in-Lent.rest n c.put-in-Lent.new.pile c.put-in-Lent-2.new.pile x c.part_at-part.result xe c.part_at-part.ensures held c.put-in-Lent.ensures.room c.put-in-Lent-2.ensures.held c.put-in-Lent-2.ensures.room c.arguments-in-Lent.result c.arguments-in-Lent.new.given c.arguments-in-Lent.new.lent c.arguments-in-Lent.new.self c.arguments-in-Lent.ensures.gives

pub arguments-returns-in-End-clause-gives : goal.arguments-returns-in-End-clause-gives
arguments-returns-in-End-clause-gives t c = λ g.
    let f = c.args.frame in let left = c.args.left in let at = c.args.at in let w = c.args.self.now in let given = c.args.given.now in let lent = c.args.lent.now in
    let n = sym c.node_at.ensures ∙ c.in_ok-node.ensures.ok_part ∙ ap Some c.in-End.is in
    end_gives f left at given lent w g n

pub arguments-returns-in_default : goal.arguments-returns-in_default
arguments-returns-in_default t c =
    let f = c.args.frame in let left = c.args.left in let at = c.args.at in let w = c.args.self.now in let given = c.args.given.now in let lent = c.args.lent.now in
    record {
      gives = λ g. absurd (no_arguments f left at given lent w g c.in_ok-node.node (sym c.node_at.ensures ∙ c.in_ok-node.ensures.ok_part) c.in_default.not-End c.in_default.not-Value c.in_default.not-Lent);
      beside = tt;
      lent = record { cells = refl; values = refl; room = refl };
      count = omega arith;
      rooms = (refl, refl);
    }

pub call-returns-in_err-entry-clause-evals : goal.call-returns-in_err-entry-clause-evals
call-returns-in_err-entry-clause-evals t c = λ g.
    let f = c.args.frame in let left = c.args.left in let at = c.args.at in let w = c.args.self.now in
    let b = call_body f left at w g c.args.place c.args.rule c.args.args c.requires.node in absurd (none-some b.entry (sym c.in_err-entry.ensures.ok_part ∙ c.entry_at.ensures ∙ b.found))

pub call-arguments-requires : goal.call-arguments-requires
call-arguments-requires t c =
    let f = c.args.frame in let left = c.args.left in let at = c.args.at in let w = c.args.self.now in
    ∥∥₁_elim c.requires.runs (Prim.hlevel (props, tame_prop, short_prop)) (λ g.
    let gr : room c.over-given.result ≡ 12 = search rules in let lr : room c.over-lent.result ≡ 12 = search rules in
    (omega (arith, args_below f left at w g c.args.place c.args.rule c.args.args c.requires.node, c.decreases), (∣ call_args f left at w g c.args.place c.args.rule c.args.args c.requires.node c.over-given.result c.over-lent.result c.over-given.ensures.empty c.over-lent.ensures.empty gr lr ∣₁, (c.requires.base, (c.requires.short, (omega (arith, c.requires.room), omega (arith, c.requires.count)))))))

pub call-returns-in_err-arguments-clause-evals : goal.call-returns-in_err-arguments-clause-evals
call-returns-in_err-arguments-clause-evals t c = λ g.
    let f = c.args.frame in let left = c.args.left in let at = c.args.at in let w = c.args.self.now in
    let gr : room c.over-given.result ≡ 12 = search rules in let lr : room c.over-lent.result ≡ 12 = search rules in
    ends-as c.from_residual-in_err-arguments.result c.in_err-arguments.field-0.0 _ w c.arguments.new.self c.from_residual-in_err-arguments.ensures.1 (call_stop f left at w g c.args.place c.args.rule c.args.args c.requires.node c.over-given.result c.over-lent.result c.over-given.ensures.empty c.over-lent.ensures.empty gr lr c.in_err-arguments.field-0.0 c.arguments.new.given c.arguments.new.lent c.arguments.new.self c.in_err-arguments.ensures.gives)

pub call-eval-requires : goal.call-eval-requires
call-eval-requires t c =
    let f = c.args.frame in let left = c.args.left in let at = c.args.at in let w = c.args.self.now in
    ∥∥₁_elim c.requires.runs (Prim.hlevel (props, tame_prop, short_prop)) (λ g.
    let gr : room c.over-given.result ≡ 12 = search rules in let lr : room c.over-lent.result ≡ 12 = search rules in
    let v = c.arguments.new.self in let h = c.enter-base.new.self in let given2 = c.arguments.new.given in let lent2 = c.arguments.new.lent in let bv = c.in_ok-arguments.ensures.beside in
    let he = c.enter-base.ensures.values ∙ ap (λ xs. entries v.values.now ++ xs) c.as_slice.ensures in
    let found = sym c.entry_at.ensures ∙ c.in_ok-entry.ensures.ok_part in
    let l = ap length he in let k = length-append (entries v.values.now) (entries given2) in let m = ap length bv.values in let few = no_more given2 given2.within in
    let ha = c.enter-base.ensures.beside in
    (omega (arith, callee_below f left at w g c.args.place c.args.rule c.args.args c.requires.node c.over-given.result c.over-lent.result c.over-given.ensures.empty c.over-lent.ensures.empty gr lr given2 lent2 v h c.in_ok-arguments.ensures.gives c.enter-base.result c.enter-base.ensures.mark he c.enter-base.ensures.beside c.as_slice-2.result c.as_slice-2.ensures c.in_ok-entry.entry found, c.decreases), (∣ callee_runs f left at w g c.args.place c.args.rule c.args.args c.requires.node c.over-given.result c.over-lent.result c.over-given.ensures.empty c.over-lent.ensures.empty gr lr given2 lent2 v h c.in_ok-arguments.ensures.gives c.enter-base.result c.enter-base.ensures.mark he c.enter-base.ensures.beside c.as_slice-2.result c.as_slice-2.ensures c.in_ok-entry.entry found ∣₁, (omega (arith, c.enter-base.ensures.mark, l, k), (call_short f left at w g c.args.place c.args.rule c.args.args c.requires.node c.over-given.result c.over-lent.result c.over-given.ensures.empty c.over-lent.ensures.empty gr lr given2 lent2 v h c.in_ok-arguments.ensures.gives c.enter-base.result c.enter-base.ensures.mark he c.enter-base.ensures.beside c.as_slice-2.result c.as_slice-2.ensures c.requires.short, (omega (arith, c.requires.room, l, k, m, few, c.in_ok-arguments.ensures.rooms.0, gr, bv.lent.room, ha.lent.room), omega (arith, c.requires.count, c.in_ok-arguments.ensures.count, ap (λ (s : State). s.fuel) ha.state, ha.checks)))))))

pub call-returns-in_err-value-clause-evals : goal.call-returns-in_err-value-clause-evals
call-returns-in_err-value-clause-evals t c = λ g.
    let f = c.args.frame in let left = c.args.left in let at = c.args.at in let w = c.args.self.now in
    let gr : room c.over-given.result ≡ 12 = search rules in let lr : room c.over-lent.result ≡ 12 = search rules in
    let v = c.arguments.new.self in let h = c.enter-base.new.self in let given2 = c.arguments.new.given in let lent2 = c.arguments.new.lent in let bv = c.in_ok-arguments.ensures.beside in
    let he = c.enter-base.ensures.values ∙ ap (λ xs. entries v.values.now ++ xs) c.as_slice.ensures in
    let found = sym c.entry_at.ensures ∙ c.in_ok-entry.ensures.ok_part in
    ends-as c.from_residual-in_err-value.result c.in_err-value.field-0.0 _ w c.eval.new.self c.from_residual-in_err-value.ensures.1 (callee_stop f left at w g c.args.place c.args.rule c.args.args c.requires.node c.over-given.result c.over-lent.result c.over-given.ensures.empty c.over-lent.ensures.empty gr lr given2 lent2 v h c.in_ok-arguments.ensures.gives c.enter-base.result c.enter-base.ensures.mark he c.enter-base.ensures.beside c.as_slice-2.result c.as_slice-2.ensures c.in_ok-entry.entry found c.in_err-value.field-0.0 c.eval.new.self c.in_err-value.ensures.evals)

pub call-returns-clause-evals : goal.call-returns-clause-evals
call-returns-clause-evals t c = λ g.
    let f = c.args.frame in let left = c.args.left in let at = c.args.at in let w = c.args.self.now in
    let gr : room c.over-given.result ≡ 12 = search rules in let lr : room c.over-lent.result ≡ 12 = search rules in
    let v = c.arguments.new.self in let h = c.enter-base.new.self in let given2 = c.arguments.new.given in let lent2 = c.arguments.new.lent in let bv = c.in_ok-arguments.ensures.beside in
    let he = c.enter-base.ensures.values ∙ ap (λ xs. entries v.values.now ++ xs) c.as_slice.ensures in
    let found = sym c.entry_at.ensures ∙ c.in_ok-entry.ensures.ok_part in
    let y = c.in_ok-value.value in let ny : to_z w32 (of_z w32 y) ≡ y = search rules in let u = c.fall_back.new.self in
    subst (λ y. Ends (Ok y) (node_in f g.book left w g.placed.tree (state_of w)) w u) (sym ny) (callee_ends f left at w g c.args.place c.args.rule c.args.args c.requires.node c.over-given.result c.over-lent.result c.over-given.ensures.empty c.over-lent.ensures.empty gr lr given2 lent2 v h c.in_ok-arguments.ensures.gives c.enter-base.result c.enter-base.ensures.mark he c.enter-base.ensures.beside c.as_slice-2.result c.as_slice-2.ensures c.in_ok-entry.entry found y c.eval.new.self u c.in_ok-value.ensures.evals c.fall_back.ensures.beside.state c.fall_back.ensures.beside.checks)

pub eval-returns-in_err-spend-clause-evals : goal.eval-returns-in_err-spend-clause-evals
eval-returns-in_err-spend-clause-evals t c = λ g.
    let f = c.args.frame in let left = c.args.left in let at = c.args.at in let w = c.args.self.now in
    let n = sym c.node_at.ensures ∙ c.in_ok-node.ensures.ok_part in
    ends-as c.from_residual-in_err-spend.result c.in_err-spend.field-0.0 _ w c.spend.new.self c.from_residual-in_err-spend.ensures.1 (eval_stop f left at w g c.in_ok-node.node n c.place_in-place.result c.place_in-place.ensures c.in_err-spend.field-0.0 c.spend.new.self c.in_err-spend.ensures.ends)

pub eval-returns-then-left-eq0-clause-evals : goal.eval-returns-then-left-eq0-clause-evals
eval-returns-then-left-eq0-clause-evals t c = λ g.
    let f = c.args.frame in let left = c.args.left in let at = c.args.at in let w = c.args.self.now in
    let n = sym c.node_at.ensures ∙ c.in_ok-node.ensures.ok_part in
    eval_deep f left at w g c.in_ok-node.node n c.place_in-place.result c.place_in-place.ensures c.spend.new.self c.in_ok-spend.ensures.ends c.if-left-eq0.true

pub eval-node-requires : goal.eval-node-requires
eval-node-requires t c =
    let f = c.args.frame in let left = c.args.left in let at = c.args.at in let w = c.args.self.now in
    ∥∥₁_elim c.requires.runs (Prim.hlevel (props, tame_prop, short_prop)) (λ g.
    let b = c.in_ok-spend.ensures.beside in let m = ap length b.values in
    let n = sym c.node_at.ensures ∙ c.in_ok-node.ensures.ok_part in
    let some : c.args.left - 1 + 1 ≡ c.args.left = search rules in
    (omega (arith, c.decreases, some), (∣ node_runs f left at w g c.in_ok-node.node n c.place_in-place.result c.place_in-place.ensures c.spend.new.self c.in_ok-spend.ensures.ends c.if-left-eq0.false b ∣₁, (n, (omega (arith, c.requires.base, m), (c.requires.short, (omega (arith, c.requires.room, m, b.lent.room, some), omega (arith, c.requires.count, c.in_ok-spend.ensures.taken, c.in_ok-spend.ensures.checks))))))))

pub eval-returns-clause-evals : goal.eval-returns-clause-evals
eval-returns-clause-evals t c = λ g.
    let f = c.args.frame in let left = c.args.left in let at = c.args.at in let w = c.args.self.now in
    let n = sym c.node_at.ensures ∙ c.in_ok-node.ensures.ok_part in
    eval_then f left at w g c.in_ok-node.node n c.place_in-place.result c.place_in-place.ensures c.spend.new.self c.in_ok-spend.ensures.ends c.if-left-eq0.false c.in_ok-spend.ensures.beside c.node.result c.node.new.self c.node.ensures.evals

pub node-eval-requires : goal.node-eval-requires
node-eval-requires t c =
    let f = c.args.frame in let left = c.args.left in let at = c.args.at in let w = c.args.self.now in
    ∥∥₁_elim c.requires.runs (Prim.hlevel (props, tame_prop, short_prop)) (λ g.
    let n = c.requires.node ∙ ap Some c.in-Calc.is in
    let o = calc_two f left at w g c.in-Calc.place c.in-Calc.operator c.in-Calc.first c.in-Calc.second n in
    (omega (arith, o.first_below, c.decreases), (∣ two_runs f left at w g.book _ _ _ o ∣₁, (omega (arith, c.requires.base), (c.requires.short, (omega (arith, c.requires.room), omega (arith, c.requires.count)))))))

pub node-returns-in_err-x-in-Calc-clause-evals : goal.node-returns-in_err-x-in-Calc-clause-evals
node-returns-in_err-x-in-Calc-clause-evals t c = λ g.
    let f = c.args.frame in let left = c.args.left in let at = c.args.at in let w = c.args.self.now in
    let n = c.requires.node ∙ ap Some c.in-Calc.is in
    let o = calc_two f left at w g c.in-Calc.place c.in-Calc.operator c.in-Calc.first c.in-Calc.second n in
    ends-as c.from_residual.result c.in_err-x-in-Calc.field-0.0 _ w c.eval.new.self c.from_residual.ensures.1 (calc_ends f left at w g c.in-Calc.place c.in-Calc.operator c.in-Calc.first c.in-Calc.second n (Err c.in_err-x-in-Calc.field-0.0) c.eval.new.self (two_stop f left at w g.book _ _ _ o c.in_err-x-in-Calc.field-0.0 c.eval.new.self c.in_err-x-in-Calc.ensures.evals))

pub node-eval-requires-in-Calc : goal.node-eval-requires-in-Calc
node-eval-requires-in-Calc t c =
    let f = c.args.frame in let left = c.args.left in let at = c.args.at in let w = c.args.self.now in
    ∥∥₁_elim c.requires.runs (Prim.hlevel (props, tame_prop, short_prop)) (λ g.
    let n = c.requires.node ∙ ap Some c.in-Calc.is in
    let o = calc_two f left at w g c.in-Calc.place c.in-Calc.operator c.in-Calc.first c.in-Calc.second n in
    let bx = c.in_ok-x-in-Calc.ensures.beside in
    (omega (arith, o.second_below, c.decreases), (∣ two_next f left at w g.book _ _ _ o c.in_ok-x-in-Calc.x c.eval.new.self c.in_ok-x-in-Calc.ensures.evals bx ∣₁, (omega (arith, c.requires.base, ap length bx.values), (c.requires.short, (omega (arith, c.requires.room, ap length bx.values, bx.lent.room), omega (arith, c.requires.count, c.in_ok-x-in-Calc.ensures.count)))))))

pub node-returns-in_err-y-in-Calc-clause-evals : goal.node-returns-in_err-y-in-Calc-clause-evals
node-returns-in_err-y-in-Calc-clause-evals t c = λ g.
    let f = c.args.frame in let left = c.args.left in let at = c.args.at in let w = c.args.self.now in
    let n = c.requires.node ∙ ap Some c.in-Calc.is in
    let o = calc_two f left at w g c.in-Calc.place c.in-Calc.operator c.in-Calc.first c.in-Calc.second n in
    let bx = c.in_ok-x-in-Calc.ensures.beside in
    ends-as c.from_residual-in_err-y-in-Calc.result c.in_err-y-in-Calc.field-0.0 _ w c.eval-in-Calc.new.self c.from_residual-in_err-y-in-Calc.ensures.1 (calc_ends f left at w g c.in-Calc.place c.in-Calc.operator c.in-Calc.first c.in-Calc.second n (Err c.in_err-y-in-Calc.field-0.0) c.eval-in-Calc.new.self (two_stop_next f left at w g.book _ _ _ o c.in_ok-x-in-Calc.x c.eval.new.self c.in_ok-x-in-Calc.ensures.evals bx c.in_err-y-in-Calc.field-0.0 c.eval-in-Calc.new.self c.in_err-y-in-Calc.ensures.evals))

pub node-eval-requires-in-Read : goal.node-eval-requires-in-Read
node-eval-requires-in-Read t c =
    let f = c.args.frame in let left = c.args.left in let at = c.args.at in let w = c.args.self.now in
    ∥∥₁_elim c.requires.runs (Prim.hlevel (props, tame_prop, short_prop)) (λ g.
    let n = c.requires.node ∙ ap Some c.in-Read.is in
    let o = read_one f left at w g c.in-Read.place c.in-Read.number c.in-Read.list c.in-Read.index n in
    (omega (arith, o.below, c.decreases), (∣ one_runs f left at w g.book _ _ o ∣₁, (omega (arith, c.requires.base), (c.requires.short, (omega (arith, c.requires.room), omega (arith, c.requires.count)))))))

pub node-returns-in_err-x-in-Read-clause-evals : goal.node-returns-in_err-x-in-Read-clause-evals
node-returns-in_err-x-in-Read-clause-evals t c = λ g.
    let f = c.args.frame in let left = c.args.left in let at = c.args.at in let w = c.args.self.now in
    let n = c.requires.node ∙ ap Some c.in-Read.is in
    let o = read_one f left at w g c.in-Read.place c.in-Read.number c.in-Read.list c.in-Read.index n in
    ends-as c.from_residual-in_err-x-in-Read.result c.in_err-x-in-Read.field-0.0 _ w c.eval-in-Read.new.self c.from_residual-in_err-x-in-Read.ensures.1 (read_ends f left at w g c.in-Read.place c.in-Read.number c.in-Read.list c.in-Read.index n (Err c.in_err-x-in-Read.field-0.0) c.eval-in-Read.new.self (one_stop f left at w g.book _ _ o c.in_err-x-in-Read.field-0.0 c.eval-in-Read.new.self c.in_err-x-in-Read.ensures.evals))

pub node-touch-requires-clause-tame : goal.node-touch-requires-clause-tame
node-touch-requires-clause-tame t c =
    let f = c.args.frame in let left = c.args.left in let at = c.args.at in let w = c.args.self.now in
    ∥∥₁_elim c.requires.runs (Prim.hlevel (props, tame_prop, short_prop)) (λ g.
    let n = c.requires.node ∙ ap Some c.in-Read.is in
    let o = read_one f left at w g c.in-Read.place c.in-Read.number c.in-Read.list c.in-Read.index n in
    let nx : to_z w32 (of_z w32 c.in_ok-x-in-Read.x) ≡ c.in_ok-x-in-Read.x = search rules in
    let t = one_tame f left at w g.book _ _ o c.in_ok-x-in-Read.x c.eval-in-Read.new.self c.in_ok-x-in-Read.ensures.evals in
    subst (λ x. Tame (touch (marked f.program.dropped.now) (record { place = c.in-Read.place; number = c.in-Read.number; list = c.in-Read.list }) (part_at f.parts.now c.in-Read.list) x (state_of c.eval-in-Read.new.self))) (sym nx) (tame-first _ _ (state_of c.eval-in-Read.new.self) t))

pub node-returns-in_err-cell-in-Read-clause-evals : goal.node-returns-in_err-cell-in-Read-clause-evals
node-returns-in_err-cell-in-Read-clause-evals t c = λ g.
    let f = c.args.frame in let left = c.args.left in let at = c.args.at in let w = c.args.self.now in
    let n = c.requires.node ∙ ap Some c.in-Read.is in
    let o = read_one f left at w g c.in-Read.place c.in-Read.number c.in-Read.list c.in-Read.index n in
    let nx : to_z w32 (of_z w32 c.in_ok-x-in-Read.x) ≡ c.in_ok-x-in-Read.x = search rules in
    let v = c.eval-in-Read.new.self in let u = c.touch.new.self in
    let te = subst (λ x. Ends (Err c.in_err-cell-in-Read.field-0.0) (touch (marked f.program.dropped.now) (record { place = c.in-Read.place; number = c.in-Read.number; list = c.in-Read.list }) (part_at f.parts.now c.in-Read.list) x (state_of v)) v u) nx c.in_err-cell-in-Read.ensures.ends in
    ends-as c.from_residual-in_err-cell-in-Read.result c.in_err-cell-in-Read.field-0.0 _ w u c.from_residual-in_err-cell-in-Read.ensures.1 (read_ends f left at w g c.in-Read.place c.in-Read.number c.in-Read.list c.in-Read.index n (Err c.in_err-cell-in-Read.field-0.0) u (one_then f left at w g.book _ _ o c.in_ok-x-in-Read.x v c.in_ok-x-in-Read.ensures.evals (Err c.in_err-cell-in-Read.field-0.0) u (ends-stop _ _ c.in_err-cell-in-Read.field-0.0 v u te)))

pub node-eval-requires-in-Bind : goal.node-eval-requires-in-Bind
node-eval-requires-in-Bind t c =
    let f = c.args.frame in let left = c.args.left in let at = c.args.at in let w = c.args.self.now in
    ∥∥₁_elim c.requires.runs (Prim.hlevel (props, tame_prop, short_prop)) (λ g.
    let n = c.requires.node ∙ ap Some c.in-Bind.is in
    let o = bind_one f left at w g c.in-Bind.place c.in-Bind.bound c.in-Bind.body n in
    (omega (arith, o.below, c.decreases), (∣ one_runs f left at w g.book _ _ o ∣₁, (omega (arith, c.requires.base), (c.requires.short, (omega (arith, c.requires.room), omega (arith, c.requires.count)))))))

pub node-returns-in_err-x-in-Bind-clause-evals : goal.node-returns-in_err-x-in-Bind-clause-evals
node-returns-in_err-x-in-Bind-clause-evals t c = λ g.
    let f = c.args.frame in let left = c.args.left in let at = c.args.at in let w = c.args.self.now in
    let n = c.requires.node ∙ ap Some c.in-Bind.is in
    let o = bind_one f left at w g c.in-Bind.place c.in-Bind.bound c.in-Bind.body n in
    ends-as c.from_residual-in_err-x-in-Bind.result c.in_err-x-in-Bind.field-0.0 _ w c.eval-in-Bind.new.self c.from_residual-in_err-x-in-Bind.ensures.1 (bind_ends f left at w g c.in-Bind.place c.in-Bind.bound c.in-Bind.body n (Err c.in_err-x-in-Bind.field-0.0) c.eval-in-Bind.new.self (one_stop f left at w g.book _ _ o c.in_err-x-in-Bind.field-0.0 c.eval-in-Bind.new.self c.in_err-x-in-Bind.ensures.evals))

pub node-eval-requires-in-Bind-2 : goal.node-eval-requires-in-Bind-2
node-eval-requires-in-Bind-2 t c =
    let f = c.args.frame in let left = c.args.left in let at = c.args.at in let w = c.args.self.now in
    ∥∥₁_elim c.requires.runs (Prim.hlevel (props, tame_prop, short_prop)) (λ g.
    let n = c.requires.node ∙ ap Some c.in-Bind.is in
    let o = bind_one f left at w g c.in-Bind.place c.in-Bind.bound c.in-Bind.body n in
    let v = c.eval-in-Bind.new.self in let h = c.hold.new.self in let x = c.in_ok-x-in-Bind.x in let bx = c.in_ok-x-in-Bind.ensures.beside in
    let nx : to_z w32 (of_z w32 x) ≡ x = search rules in
    let hv = c.hold.ensures.values ∙ ap (λ x. entries v.values.now ++ x ∷ []) nx in
    let q = bind_body f left at w g c.in-Bind.place c.in-Bind.bound c.in-Bind.body n in
    let fr = held_frame f w v h x c.requires.base bx hv in
    let t = subst (λ s. Tame (run_at f g.book left (holding (frame_of f w) x) q.tree s)) (sym c.hold.ensures.beside.state) (one_tame f left at w g.book _ _ o x v c.in_ok-x-in-Bind.ensures.evals) in
    let l = ap length hv in let k = length-append (entries v.values.now) (x ∷ []) in let m = ap length bx.values in
    (omega (arith, body_below f left at w g c.in-Bind.place c.in-Bind.bound c.in-Bind.body n, c.decreases), (∣ runs_here f left c.in-Bind.body h g.book q (holding (frame_of f w) x) fr t ∣₁, (omega (arith, c.requires.base, l, k, m), (c.requires.short, (omega (arith, c.requires.room, l, k, m, bx.lent.room, c.hold.ensures.beside.lent.room), omega (arith, c.requires.count, c.in_ok-x-in-Bind.ensures.count, ap (λ (s : State). s.fuel) c.hold.ensures.beside.state, c.hold.ensures.beside.checks)))))))

pub node-returns-in_err-y-in-Bind-clause-evals : goal.node-returns-in_err-y-in-Bind-clause-evals
node-returns-in_err-y-in-Bind-clause-evals t c = λ g.
    let f = c.args.frame in let left = c.args.left in let at = c.args.at in let w = c.args.self.now in
    let n = c.requires.node ∙ ap Some c.in-Bind.is in
    let o = bind_one f left at w g c.in-Bind.place c.in-Bind.bound c.in-Bind.body n in
    let v = c.eval-in-Bind.new.self in let h = c.hold.new.self in let x = c.in_ok-x-in-Bind.x in let bx = c.in_ok-x-in-Bind.ensures.beside in
    let nx : to_z w32 (of_z w32 x) ≡ x = search rules in
    let hv = c.hold.ensures.values ∙ ap (λ x. entries v.values.now ++ x ∷ []) nx in
    let q = bind_body f left at w g c.in-Bind.place c.in-Bind.bound c.in-Bind.body n in
    let fr = held_frame f w v h x c.requires.base bx hv in
    let t = subst (λ s. Tame (run_at f g.book left (holding (frame_of f w) x) q.tree s)) (sym c.hold.ensures.beside.state) (one_tame f left at w g.book _ _ o x v c.in_ok-x-in-Bind.ensures.evals) in
    let z = c.eval-in-Bind-2.new.self in
    ends-as c.from_residual-in_err-y-in-Bind.result c.in_err-y-in-Bind.field-0.0 _ w z c.from_residual-in_err-y-in-Bind.ensures.1 (bind_ends f left at w g c.in-Bind.place c.in-Bind.bound c.in-Bind.body n (Err c.in_err-y-in-Bind.field-0.0) z (one_then f left at w g.book _ _ o x v c.in_ok-x-in-Bind.ensures.evals (Err c.in_err-y-in-Bind.field-0.0) z (ends-from (Err c.in_err-y-in-Bind.field-0.0) (run_at f g.book left (holding (frame_of f w) x) q.tree) v h z c.hold.ensures.beside.state c.hold.ensures.beside.checks (ends_here f left c.in-Bind.body h g.book q (holding (frame_of f w) x) fr t (Err c.in_err-y-in-Bind.field-0.0) z c.in_err-y-in-Bind.ensures.evals))))

pub node-eval-requires-in-Test : goal.node-eval-requires-in-Test
node-eval-requires-in-Test t c =
    let f = c.args.frame in let left = c.args.left in let at = c.args.at in let w = c.args.self.now in
    ∥∥₁_elim c.requires.runs (Prim.hlevel (props, tame_prop, short_prop)) (λ g.
    let n = c.requires.node ∙ ap Some c.in-Test.is in
    let o = test_two f left at w g c.in-Test.place c.in-Test.comparison c.in-Test.first c.in-Test.second c.in-Test.met c.in-Test.unmet n in
    (omega (arith, o.first_below, c.decreases), (∣ two_runs f left at w g.book _ _ _ o ∣₁, (omega (arith, c.requires.base), (c.requires.short, (omega (arith, c.requires.room), omega (arith, c.requires.count)))))))

pub node-returns-in_err-x-in-Test-clause-evals : goal.node-returns-in_err-x-in-Test-clause-evals
node-returns-in_err-x-in-Test-clause-evals t c = λ g.
    let f = c.args.frame in let left = c.args.left in let at = c.args.at in let w = c.args.self.now in
    let n = c.requires.node ∙ ap Some c.in-Test.is in
    let o = test_two f left at w g c.in-Test.place c.in-Test.comparison c.in-Test.first c.in-Test.second c.in-Test.met c.in-Test.unmet n in
    ends-as c.from_residual-in_err-x-in-Test.result c.in_err-x-in-Test.field-0.0 _ w c.eval-in-Test.new.self c.from_residual-in_err-x-in-Test.ensures.1 (test_ends f left at w g c.in-Test.place c.in-Test.comparison c.in-Test.first c.in-Test.second c.in-Test.met c.in-Test.unmet n (Err c.in_err-x-in-Test.field-0.0) c.eval-in-Test.new.self (two_stop f left at w g.book _ _ _ o c.in_err-x-in-Test.field-0.0 c.eval-in-Test.new.self c.in_err-x-in-Test.ensures.evals))

pub node-eval-requires-in-Test-2 : goal.node-eval-requires-in-Test-2
node-eval-requires-in-Test-2 t c =
    let f = c.args.frame in let left = c.args.left in let at = c.args.at in let w = c.args.self.now in
    ∥∥₁_elim c.requires.runs (Prim.hlevel (props, tame_prop, short_prop)) (λ g.
    let n = c.requires.node ∙ ap Some c.in-Test.is in
    let o = test_two f left at w g c.in-Test.place c.in-Test.comparison c.in-Test.first c.in-Test.second c.in-Test.met c.in-Test.unmet n in
    let bx = c.in_ok-x-in-Test.ensures.beside in
    (omega (arith, o.second_below, c.decreases), (∣ two_next f left at w g.book _ _ _ o c.in_ok-x-in-Test.x c.eval-in-Test.new.self c.in_ok-x-in-Test.ensures.evals bx ∣₁, (omega (arith, c.requires.base, ap length bx.values), (c.requires.short, (omega (arith, c.requires.room, ap length bx.values, bx.lent.room), omega (arith, c.requires.count, c.in_ok-x-in-Test.ensures.count)))))))

pub node-returns-in_err-y-in-Test-clause-evals : goal.node-returns-in_err-y-in-Test-clause-evals
node-returns-in_err-y-in-Test-clause-evals t c = λ g.
    let f = c.args.frame in let left = c.args.left in let at = c.args.at in let w = c.args.self.now in
    let n = c.requires.node ∙ ap Some c.in-Test.is in
    let o = test_two f left at w g c.in-Test.place c.in-Test.comparison c.in-Test.first c.in-Test.second c.in-Test.met c.in-Test.unmet n in
    let bx = c.in_ok-x-in-Test.ensures.beside in
    ends-as c.from_residual-in_err-y-in-Test.result c.in_err-y-in-Test.field-0.0 _ w c.eval-in-Test-2.new.self c.from_residual-in_err-y-in-Test.ensures.1 (test_ends f left at w g c.in-Test.place c.in-Test.comparison c.in-Test.first c.in-Test.second c.in-Test.met c.in-Test.unmet n (Err c.in_err-y-in-Test.field-0.0) c.eval-in-Test-2.new.self (two_stop_next f left at w g.book _ _ _ o c.in_ok-x-in-Test.x c.eval-in-Test.new.self c.in_ok-x-in-Test.ensures.evals bx c.in_err-y-in-Test.field-0.0 c.eval-in-Test-2.new.self c.in_err-y-in-Test.ensures.evals))

pub node-eval-requires-then-holds : goal.node-eval-requires-then-holds
node-eval-requires-then-holds t c =
    let f = c.args.frame in let left = c.args.left in let at = c.args.at in let w = c.args.self.now in
    ∥∥₁_elim c.requires.runs (Prim.hlevel (props, tame_prop, short_prop)) (λ g.
    let n = c.requires.node ∙ ap Some c.in-Test.is in
    let o = test_two f left at w g c.in-Test.place c.in-Test.comparison c.in-Test.first c.in-Test.second c.in-Test.met c.in-Test.unmet n in
    let bx = c.in_ok-x-in-Test.ensures.beside in let by = c.in_ok-y-in-Test.ensures.beside in let bz = beside_then w c.eval-in-Test.new.self c.eval-in-Test-2.new.self bx by in
    let z = c.eval-in-Test-2.new.self in
    let hc : holds c.in-Test.comparison c.in_ok-x-in-Test.x c.in_ok-y-in-Test.y ≡ true = search rules in
    let q = test_met f left at w g c.in-Test.place c.in-Test.comparison c.in-Test.first c.in-Test.second c.in-Test.met c.in-Test.unmet n in
    let t = met_tame _ _ _ (state_of z) hc (two_tame f left at w g.book _ _ _ o c.in_ok-x-in-Test.x c.eval-in-Test.new.self c.in_ok-x-in-Test.ensures.evals bx c.in_ok-y-in-Test.y c.eval-in-Test-2.new.self c.in_ok-y-in-Test.ensures.evals) in
    (omega (arith, met_below f left at w g c.in-Test.place c.in-Test.comparison c.in-Test.first c.in-Test.second c.in-Test.met c.in-Test.unmet n, c.decreases), (∣ runs_here f left c.in-Test.met z g.book q (frame_of f w) (same_frame f w z bz) t ∣₁, (omega (arith, c.requires.base, ap length bz.values), (c.requires.short, (omega (arith, c.requires.room, ap length bz.values, bz.lent.room), omega (arith, c.requires.count, c.in_ok-x-in-Test.ensures.count, c.in_ok-y-in-Test.ensures.count)))))))

pub node-returns-then-holds-clause-evals : goal.node-returns-then-holds-clause-evals
node-returns-then-holds-clause-evals t c = λ g.
    let f = c.args.frame in let left = c.args.left in let at = c.args.at in let w = c.args.self.now in
    let n = c.requires.node ∙ ap Some c.in-Test.is in
    let o = test_two f left at w g c.in-Test.place c.in-Test.comparison c.in-Test.first c.in-Test.second c.in-Test.met c.in-Test.unmet n in
    let bx = c.in_ok-x-in-Test.ensures.beside in let by = c.in_ok-y-in-Test.ensures.beside in let bz = beside_then w c.eval-in-Test.new.self c.eval-in-Test-2.new.self bx by in
    let z = c.eval-in-Test-2.new.self in
    let hc : holds c.in-Test.comparison c.in_ok-x-in-Test.x c.in_ok-y-in-Test.y ≡ true = search rules in
    let q = test_met f left at w g c.in-Test.place c.in-Test.comparison c.in-Test.first c.in-Test.second c.in-Test.met c.in-Test.unmet n in
    let t = met_tame _ _ _ (state_of z) hc (two_tame f left at w g.book _ _ _ o c.in_ok-x-in-Test.x c.eval-in-Test.new.self c.in_ok-x-in-Test.ensures.evals bx c.in_ok-y-in-Test.y c.eval-in-Test-2.new.self c.in_ok-y-in-Test.ensures.evals) in
    let r = c.eval-then-holds.result in let u = c.eval-then-holds.new.self in
    test_ends f left at w g c.in-Test.place c.in-Test.comparison c.in-Test.first c.in-Test.second c.in-Test.met c.in-Test.unmet n r u (two_then f left at w g.book _ _ _ o c.in_ok-x-in-Test.x c.eval-in-Test.new.self c.in_ok-x-in-Test.ensures.evals bx c.in_ok-y-in-Test.y c.eval-in-Test-2.new.self c.in_ok-y-in-Test.ensures.evals r u (met_ends _ _ _ r z u hc (ends_here f left c.in-Test.met z g.book q (frame_of f w) (same_frame f w z bz) t r u c.eval-then-holds.ensures.evals)))

pub node-eval-requires-in-Test-3 : goal.node-eval-requires-in-Test-3
node-eval-requires-in-Test-3 t c =
    let f = c.args.frame in let left = c.args.left in let at = c.args.at in let w = c.args.self.now in
    ∥∥₁_elim c.requires.runs (Prim.hlevel (props, tame_prop, short_prop)) (λ g.
    let n = c.requires.node ∙ ap Some c.in-Test.is in
    let o = test_two f left at w g c.in-Test.place c.in-Test.comparison c.in-Test.first c.in-Test.second c.in-Test.met c.in-Test.unmet n in
    let bx = c.in_ok-x-in-Test.ensures.beside in let by = c.in_ok-y-in-Test.ensures.beside in let bz = beside_then w c.eval-in-Test.new.self c.eval-in-Test-2.new.self bx by in
    let z = c.eval-in-Test-2.new.self in
    let hc : holds c.in-Test.comparison c.in_ok-x-in-Test.x c.in_ok-y-in-Test.y ≡ false = search rules in
    let q = test_unmet f left at w g c.in-Test.place c.in-Test.comparison c.in-Test.first c.in-Test.second c.in-Test.met c.in-Test.unmet n in
    let t = unmet_tame _ _ _ (state_of z) hc (two_tame f left at w g.book _ _ _ o c.in_ok-x-in-Test.x c.eval-in-Test.new.self c.in_ok-x-in-Test.ensures.evals bx c.in_ok-y-in-Test.y c.eval-in-Test-2.new.self c.in_ok-y-in-Test.ensures.evals) in
    (omega (arith, unmet_below f left at w g c.in-Test.place c.in-Test.comparison c.in-Test.first c.in-Test.second c.in-Test.met c.in-Test.unmet n, c.decreases), (∣ runs_here f left c.in-Test.unmet z g.book q (frame_of f w) (same_frame f w z bz) t ∣₁, (omega (arith, c.requires.base, ap length bz.values), (c.requires.short, (omega (arith, c.requires.room, ap length bz.values, bz.lent.room), omega (arith, c.requires.count, c.in_ok-x-in-Test.ensures.count, c.in_ok-y-in-Test.ensures.count)))))))

pub node-eval-requires-in-Put : goal.node-eval-requires-in-Put
node-eval-requires-in-Put t c =
    let f = c.args.frame in let left = c.args.left in let at = c.args.at in let w = c.args.self.now in
    ∥∥₁_elim c.requires.runs (Prim.hlevel (props, tame_prop, short_prop)) (λ g.
    let n = c.requires.node ∙ ap Some c.in-Put.is in
    let o = put_two f left at w g c.in-Put.place' c.in-Put.place c.in-Put.number c.in-Put.list c.in-Put.index c.in-Put.value c.in-Put.rest n in
    (omega (arith, o.first_below, c.decreases), (∣ two_runs f left at w g.book _ _ _ o ∣₁, (omega (arith, c.requires.base), (c.requires.short, (omega (arith, c.requires.room), omega (arith, c.requires.count)))))))

pub node-returns-in_err-x-in-Put-clause-evals : goal.node-returns-in_err-x-in-Put-clause-evals
node-returns-in_err-x-in-Put-clause-evals t c = λ g.
    let f = c.args.frame in let left = c.args.left in let at = c.args.at in let w = c.args.self.now in
    let n = c.requires.node ∙ ap Some c.in-Put.is in
    let o = put_two f left at w g c.in-Put.place' c.in-Put.place c.in-Put.number c.in-Put.list c.in-Put.index c.in-Put.value c.in-Put.rest n in
    ends-as c.from_residual-in_err-x-in-Put.result c.in_err-x-in-Put.field-0.0 _ w c.eval-in-Put.new.self c.from_residual-in_err-x-in-Put.ensures.1 (put_ends f left at w g c.in-Put.place' c.in-Put.place c.in-Put.number c.in-Put.list c.in-Put.index c.in-Put.value c.in-Put.rest n (Err c.in_err-x-in-Put.field-0.0) c.eval-in-Put.new.self (two_stop f left at w g.book _ _ _ o c.in_err-x-in-Put.field-0.0 c.eval-in-Put.new.self c.in_err-x-in-Put.ensures.evals))

pub node-eval-requires-in-Put-2 : goal.node-eval-requires-in-Put-2
node-eval-requires-in-Put-2 t c =
    let f = c.args.frame in let left = c.args.left in let at = c.args.at in let w = c.args.self.now in
    ∥∥₁_elim c.requires.runs (Prim.hlevel (props, tame_prop, short_prop)) (λ g.
    let n = c.requires.node ∙ ap Some c.in-Put.is in
    let o = put_two f left at w g c.in-Put.place' c.in-Put.place c.in-Put.number c.in-Put.list c.in-Put.index c.in-Put.value c.in-Put.rest n in
    let bx = c.in_ok-x-in-Put.ensures.beside in
    (omega (arith, o.second_below, c.decreases), (∣ two_next f left at w g.book _ _ _ o c.in_ok-x-in-Put.x c.eval-in-Put.new.self c.in_ok-x-in-Put.ensures.evals bx ∣₁, (omega (arith, c.requires.base, ap length bx.values), (c.requires.short, (omega (arith, c.requires.room, ap length bx.values, bx.lent.room), omega (arith, c.requires.count, c.in_ok-x-in-Put.ensures.count)))))))

pub node-returns-in_err-y-in-Put-clause-evals : goal.node-returns-in_err-y-in-Put-clause-evals
node-returns-in_err-y-in-Put-clause-evals t c = λ g.
    let f = c.args.frame in let left = c.args.left in let at = c.args.at in let w = c.args.self.now in
    let n = c.requires.node ∙ ap Some c.in-Put.is in
    let o = put_two f left at w g c.in-Put.place' c.in-Put.place c.in-Put.number c.in-Put.list c.in-Put.index c.in-Put.value c.in-Put.rest n in
    let bx = c.in_ok-x-in-Put.ensures.beside in
    ends-as c.from_residual-in_err-y-in-Put.result c.in_err-y-in-Put.field-0.0 _ w c.eval-in-Put-2.new.self c.from_residual-in_err-y-in-Put.ensures.1 (put_ends f left at w g c.in-Put.place' c.in-Put.place c.in-Put.number c.in-Put.list c.in-Put.index c.in-Put.value c.in-Put.rest n (Err c.in_err-y-in-Put.field-0.0) c.eval-in-Put-2.new.self (two_stop_next f left at w g.book _ _ _ o c.in_ok-x-in-Put.x c.eval-in-Put.new.self c.in_ok-x-in-Put.ensures.evals bx c.in_err-y-in-Put.field-0.0 c.eval-in-Put-2.new.self c.in_err-y-in-Put.ensures.evals))

pub node-touch-requires-in-Put-clause-tame : goal.node-touch-requires-in-Put-clause-tame
node-touch-requires-in-Put-clause-tame t c =
    let f = c.args.frame in let left = c.args.left in let at = c.args.at in let w = c.args.self.now in
    ∥∥₁_elim c.requires.runs (Prim.hlevel (props, tame_prop, short_prop)) (λ g.
    let n = c.requires.node ∙ ap Some c.in-Put.is in
    let o = put_two f left at w g c.in-Put.place' c.in-Put.place c.in-Put.number c.in-Put.list c.in-Put.index c.in-Put.value c.in-Put.rest n in
    let bx = c.in_ok-x-in-Put.ensures.beside in let by = c.in_ok-y-in-Put.ensures.beside in let bz = beside_then w c.eval-in-Put.new.self c.eval-in-Put-2.new.self bx by in
    let nx : to_z w32 (of_z w32 c.in_ok-x-in-Put.x) ≡ c.in_ok-x-in-Put.x = search rules in
    let z = c.eval-in-Put-2.new.self in let t = two_tame f left at w g.book _ _ _ o c.in_ok-x-in-Put.x c.eval-in-Put.new.self c.in_ok-x-in-Put.ensures.evals bx c.in_ok-y-in-Put.y c.eval-in-Put-2.new.self c.in_ok-y-in-Put.ensures.evals in
    subst (λ x. Tame (touch (marked f.program.dropped.now) (record { place = c.in-Put.place; number = c.in-Put.number; list = c.in-Put.list }) (part_at f.parts.now c.in-Put.list) x (state_of z))) (sym nx) (tame-first _ _ (state_of z) t))

pub node-returns-in_err-cell-in-Put-clause-evals : goal.node-returns-in_err-cell-in-Put-clause-evals
node-returns-in_err-cell-in-Put-clause-evals t c = λ g.
    let f = c.args.frame in let left = c.args.left in let at = c.args.at in let w = c.args.self.now in
    let n = c.requires.node ∙ ap Some c.in-Put.is in
    let o = put_two f left at w g c.in-Put.place' c.in-Put.place c.in-Put.number c.in-Put.list c.in-Put.index c.in-Put.value c.in-Put.rest n in
    let bx = c.in_ok-x-in-Put.ensures.beside in let by = c.in_ok-y-in-Put.ensures.beside in let bz = beside_then w c.eval-in-Put.new.self c.eval-in-Put-2.new.self bx by in
    let nx : to_z w32 (of_z w32 c.in_ok-x-in-Put.x) ≡ c.in_ok-x-in-Put.x = search rules in
    let z = c.eval-in-Put-2.new.self in let u = c.touch-in-Put.new.self in let t = two_tame f left at w g.book _ _ _ o c.in_ok-x-in-Put.x c.eval-in-Put.new.self c.in_ok-x-in-Put.ensures.evals bx c.in_ok-y-in-Put.y c.eval-in-Put-2.new.self c.in_ok-y-in-Put.ensures.evals in
    let te = subst (λ x. Ends (Err c.in_err-cell-in-Put.field-0.0) (touch (marked f.program.dropped.now) (record { place = c.in-Put.place; number = c.in-Put.number; list = c.in-Put.list }) (part_at f.parts.now c.in-Put.list) x (state_of z)) z u) nx c.in_err-cell-in-Put.ensures.ends in
    ends-as c.from_residual-in_err-cell-in-Put.result c.in_err-cell-in-Put.field-0.0 _ w u c.from_residual-in_err-cell-in-Put.ensures.1 (put_ends f left at w g c.in-Put.place' c.in-Put.place c.in-Put.number c.in-Put.list c.in-Put.index c.in-Put.value c.in-Put.rest n (Err c.in_err-cell-in-Put.field-0.0) u (two_then f left at w g.book _ _ _ o c.in_ok-x-in-Put.x c.eval-in-Put.new.self c.in_ok-x-in-Put.ensures.evals bx c.in_ok-y-in-Put.y c.eval-in-Put-2.new.self c.in_ok-y-in-Put.ensures.evals (Err c.in_err-cell-in-Put.field-0.0) u (ends-stop _ _ c.in_err-cell-in-Put.field-0.0 z u te)))

pub node-eval-requires-in-Put-3 : goal.node-eval-requires-in-Put-3
node-eval-requires-in-Put-3 t c =
    let f = c.args.frame in let left = c.args.left in let at = c.args.at in let w = c.args.self.now in
    ∥∥₁_elim c.requires.runs (Prim.hlevel (props, tame_prop, short_prop)) (λ g.
    let n = c.requires.node ∙ ap Some c.in-Put.is in
    let o = put_two f left at w g c.in-Put.place' c.in-Put.place c.in-Put.number c.in-Put.list c.in-Put.index c.in-Put.value c.in-Put.rest n in
    let bx = c.in_ok-x-in-Put.ensures.beside in let by = c.in_ok-y-in-Put.ensures.beside in let bz = beside_then w c.eval-in-Put.new.self c.eval-in-Put-2.new.self bx by in
    let nx : to_z w32 (of_z w32 c.in_ok-x-in-Put.x) ≡ c.in_ok-x-in-Put.x = search rules in
    let z = c.eval-in-Put-2.new.self in let u = c.touch-in-Put.new.self in let t = two_tame f left at w g.book _ _ _ o c.in_ok-x-in-Put.x c.eval-in-Put.new.self c.in_ok-x-in-Put.ensures.evals bx c.in_ok-y-in-Put.y c.eval-in-Put-2.new.self c.in_ok-y-in-Put.ensures.evals in
    let a = c.in_ok-cell-in-Put.cell in let y = c.in_ok-y-in-Put.y in let h = c.store.new.self in
    let te = subst (λ x. Ends (Ok a) (touch (marked f.program.dropped.now) (record { place = c.in-Put.place; number = c.in-Put.number; list = c.in-Put.list }) (part_at f.parts.now c.in-Put.list) x (state_of z)) z u) nx c.in_ok-cell-in-Put.ensures.ends in
    let ny : to_z w32 (of_z w32 y) ≡ y = search rules in
    let se = store_ends a y u h c.store.ensures.fuel (c.store.ensures.cells ∙ ap (λ y. slice_set u.cells.now a y) ny) c.store.ensures.checks in
    let q = put_rest f left at w g c.in-Put.place' c.in-Put.place c.in-Put.number c.in-Put.list c.in-Put.index c.in-Put.value c.in-Put.rest n in
    let t2 = tame-rest _ _ tt u h (tame-rest _ _ a z u t te) se in
    let bu = beside_then w z u bz c.in_ok-cell-in-Put.ensures.beside in let bh = beside_then w u h bu c.store.ensures.beside in
    (omega (arith, put_below f left at w g c.in-Put.place' c.in-Put.place c.in-Put.number c.in-Put.list c.in-Put.index c.in-Put.value c.in-Put.rest n, c.decreases), (∣ runs_here f left c.in-Put.rest h g.book q (frame_of f w) (same_frame f w h bh) t2 ∣₁, (omega (arith, c.requires.base, ap length bh.values), (c.requires.short, (omega (arith, c.requires.room, ap length bh.values, bh.lent.room), omega (arith, c.requires.count, c.in_ok-x-in-Put.ensures.count, c.in_ok-y-in-Put.ensures.count, c.in_ok-cell-in-Put.ensures.fuel, c.in_ok-cell-in-Put.ensures.checks, c.store.ensures.fuel, c.store.ensures.checks)))))))

pub node-eval-requires-in-Claim : goal.node-eval-requires-in-Claim
node-eval-requires-in-Claim t c =
    let f = c.args.frame in let left = c.args.left in let at = c.args.at in let w = c.args.self.now in
    ∥∥₁_elim c.requires.runs (Prim.hlevel (props, tame_prop, short_prop)) (λ g.
    let n = c.requires.node ∙ ap Some c.in-Claim.is in
    (omega (arith, claim_below f left at w g c.in-Claim.place c.in-Claim.claimed c.in-Claim.conditions n, c.decreases), (∣ claim_runs f left at w g c.in-Claim.place c.in-Claim.claimed c.in-Claim.conditions n ∣₁, (omega (arith, c.requires.base), (c.requires.short, (omega (arith, c.requires.room), omega (arith, c.requires.count)))))))

pub node-returns-in-Num-clause-evals : goal.node-returns-in-Num-clause-evals
node-returns-in-Num-clause-evals t c = λ g.
    let f = c.args.frame in let left = c.args.left in let at = c.args.at in let w = c.args.self.now in
    let n = c.requires.node ∙ ap Some c.in-Num.is in
    let r = c.fit.result in
    let nv : to_z w64 (of_z w64 c.from.result) ≡ pos c.in-Num.value = search rules in
    let h = subst (λ v. fit (program_of f.program g.book.bodies) c.in-Num.place v (state_of w) ≡ quiet (outcome_of r (state_of w))) nv (c.fit.ensures g.book.bodies (state_of w)) in
    num_ends f left at w g c.in-Num.place c.in-Num.value n r h

pub node-returns-in-Name-clause-evals : goal.node-returns-in-Name-clause-evals
node-returns-in-Name-clause-evals t c = λ g.
    let f = c.args.frame in let left = c.args.left in let at = c.args.at in let w = c.args.self.now in
    let n = c.requires.node ∙ ap Some c.in-Name.is in
    let r = c.fit-in-Name.result in
    let nv : to_z w64 (of_z w64 c.from-in-Name.result) ≡ c.named-value.result = search rules in
    let h = subst (λ v. fit (program_of f.program g.book.bodies) c.in-Name.place v (state_of w) ≡ quiet (outcome_of r (state_of w))) nv (c.fit-in-Name.ensures g.book.bodies (state_of w)) in
    name_ends f left at w g c.in-Name.place c.in-Name.slot n c.named-value.result r c.named-value.ensures h

pub node-returns-in_ok-y-in-Calc-clause-evals : goal.node-returns-in_ok-y-in-Calc-clause-evals
node-returns-in_ok-y-in-Calc-clause-evals t c = λ g.
    let f = c.args.frame in let left = c.args.left in let at = c.args.at in let w = c.args.self.now in
    let n = c.requires.node ∙ ap Some c.in-Calc.is in
    let o = calc_two f left at w g c.in-Calc.place c.in-Calc.operator c.in-Calc.first c.in-Calc.second n in
    let bx = c.in_ok-x-in-Calc.ensures.beside in let by = c.in_ok-y-in-Calc.ensures.beside in let bz = beside_then w c.eval.new.self c.eval-in-Calc.new.self bx by in
    let r = c.fit-in-Calc.result in let z = c.eval-in-Calc.new.self in
    let nv : to_z w64 (of_z w64 c.reckoned.result) ≡ reckoned c.in-Calc.operator c.in_ok-x-in-Calc.x c.in_ok-y-in-Calc.y = search rules in
    let h = subst (λ v. fit (program_of f.program g.book.bodies) c.in-Calc.place v (state_of z) ≡ quiet (outcome_of r (state_of z))) nv (c.fit-in-Calc.ensures g.book.bodies (state_of z)) in
    calc_ends f left at w g c.in-Calc.place c.in-Calc.operator c.in-Calc.first c.in-Calc.second n r z (two_then f left at w g.book _ _ _ o c.in_ok-x-in-Calc.x c.eval.new.self c.in_ok-x-in-Calc.ensures.evals bx c.in_ok-y-in-Calc.y c.eval-in-Calc.new.self c.in_ok-y-in-Calc.ensures.evals r z (fit_ends (program_of f.program g.book.bodies) c.in-Calc.place _ r z h))

pub node-returns-in_ok-cell-in-Read-clause-evals : goal.node-returns-in_ok-cell-in-Read-clause-evals
node-returns-in_ok-cell-in-Read-clause-evals t c = λ g.
    let f = c.args.frame in let left = c.args.left in let at = c.args.at in let w = c.args.self.now in
    let n = c.requires.node ∙ ap Some c.in-Read.is in
    let o = read_one f left at w g c.in-Read.place c.in-Read.number c.in-Read.list c.in-Read.index n in
    let nx : to_z w32 (of_z w32 c.in_ok-x-in-Read.x) ≡ c.in_ok-x-in-Read.x = search rules in
    let v = c.eval-in-Read.new.self in let u = c.touch.new.self in let z = c.load-value.new.self in let r = c.fit-in-Read.result in let y = c.load-value.result in
    let te = subst (λ x. Ends (Ok c.in_ok-cell-in-Read.cell) (touch (marked f.program.dropped.now) (record { place = c.in-Read.place; number = c.in-Read.number; list = c.in-Read.list }) (part_at f.parts.now c.in-Read.list) x (state_of v)) v u) nx c.in_ok-cell-in-Read.ensures.ends in
    let nv : to_z w64 (of_z w64 c.from-in-Read.result) ≡ y = search rules in
    let h = subst (λ v. fit (program_of f.program g.book.bodies) c.in-Read.place v (state_of z) ≡ quiet (outcome_of r (state_of z))) nv (c.fit-in-Read.ensures g.book.bodies (state_of z)) in
    let same = ap₂ (λ n cs. record { fuel = n; cells = cs }) c.load-value.ensures.fuel c.load-value.ensures.cells in
    read_ends f left at w g c.in-Read.place c.in-Read.number c.in-Read.list c.in-Read.index n r z (one_then f left at w g.book _ _ o c.in_ok-x-in-Read.x v c.in_ok-x-in-Read.ensures.evals r z (load_ends (program_of f.program g.book.bodies) (marked f.program.dropped.now) (record { place = c.in-Read.place; number = c.in-Read.number; list = c.in-Read.list }) (part_at f.parts.now c.in-Read.list) c.in_ok-x-in-Read.x y c.in_ok-cell-in-Read.cell r v u z te c.load-value.ensures.value same c.load-value.ensures.checks h))

pub node-returns-in_ok-y-in-Bind-clause-evals : goal.node-returns-in_ok-y-in-Bind-clause-evals
node-returns-in_ok-y-in-Bind-clause-evals t c = λ g.
    let f = c.args.frame in let left = c.args.left in let at = c.args.at in let w = c.args.self.now in
    let n = c.requires.node ∙ ap Some c.in-Bind.is in
    let o = bind_one f left at w g c.in-Bind.place c.in-Bind.bound c.in-Bind.body n in
    let v = c.eval-in-Bind.new.self in let h = c.hold.new.self in let x = c.in_ok-x-in-Bind.x in let bx = c.in_ok-x-in-Bind.ensures.beside in
    let nx : to_z w32 (of_z w32 x) ≡ x = search rules in
    let hv = c.hold.ensures.values ∙ ap (λ x. entries v.values.now ++ x ∷ []) nx in
    let q = bind_body f left at w g c.in-Bind.place c.in-Bind.bound c.in-Bind.body n in
    let fr = held_frame f w v h x c.requires.base bx hv in
    let t = subst (λ s. Tame (run_at f g.book left (holding (frame_of f w) x) q.tree s)) (sym c.hold.ensures.beside.state) (one_tame f left at w g.book _ _ o x v c.in_ok-x-in-Bind.ensures.evals) in
    let z = c.eval-in-Bind-2.new.self in let y = c.in_ok-y-in-Bind.y in
    let ny : to_z w32 (of_z w32 y) ≡ y = search rules in
    let m = node_in f g.book left w g.placed.tree (state_of w) in
    subst (λ y. Ends (Ok y) m w c.fall_back.new.self) (sym ny) (ends-at (Ok y) m w z c.fall_back.new.self c.fall_back.ensures.beside.state c.fall_back.ensures.beside.checks (bind_ends f left at w g c.in-Bind.place c.in-Bind.bound c.in-Bind.body n (Ok y) z (one_then f left at w g.book _ _ o x v c.in_ok-x-in-Bind.ensures.evals (Ok y) z (ends-from (Ok y) (run_at f g.book left (holding (frame_of f w) x) q.tree) v h z c.hold.ensures.beside.state c.hold.ensures.beside.checks (ends_here f left c.in-Bind.body h g.book q (holding (frame_of f w) x) fr t (Ok y) z c.in_ok-y-in-Bind.ensures.evals)))))

pub node-returns-else-holds-clause-evals : goal.node-returns-else-holds-clause-evals
node-returns-else-holds-clause-evals t c = λ g.
    let f = c.args.frame in let left = c.args.left in let at = c.args.at in let w = c.args.self.now in
    let n = c.requires.node ∙ ap Some c.in-Test.is in
    let o = test_two f left at w g c.in-Test.place c.in-Test.comparison c.in-Test.first c.in-Test.second c.in-Test.met c.in-Test.unmet n in
    let bx = c.in_ok-x-in-Test.ensures.beside in let by = c.in_ok-y-in-Test.ensures.beside in let bz = beside_then w c.eval-in-Test.new.self c.eval-in-Test-2.new.self bx by in
    let z = c.eval-in-Test-2.new.self in
    let hc : holds c.in-Test.comparison c.in_ok-x-in-Test.x c.in_ok-y-in-Test.y ≡ false = search rules in
    let q = test_unmet f left at w g c.in-Test.place c.in-Test.comparison c.in-Test.first c.in-Test.second c.in-Test.met c.in-Test.unmet n in
    let t = unmet_tame _ _ _ (state_of z) hc (two_tame f left at w g.book _ _ _ o c.in_ok-x-in-Test.x c.eval-in-Test.new.self c.in_ok-x-in-Test.ensures.evals bx c.in_ok-y-in-Test.y c.eval-in-Test-2.new.self c.in_ok-y-in-Test.ensures.evals) in
    let r = c.eval-in-Test-3.result in let u = c.eval-in-Test-3.new.self in
    test_ends f left at w g c.in-Test.place c.in-Test.comparison c.in-Test.first c.in-Test.second c.in-Test.met c.in-Test.unmet n r u (two_then f left at w g.book _ _ _ o c.in_ok-x-in-Test.x c.eval-in-Test.new.self c.in_ok-x-in-Test.ensures.evals bx c.in_ok-y-in-Test.y c.eval-in-Test-2.new.self c.in_ok-y-in-Test.ensures.evals r u (unmet_ends _ _ _ r z u hc (ends_here f left c.in-Test.unmet z g.book q (frame_of f w) (same_frame f w z bz) t r u c.eval-in-Test-3.ensures.evals)))

pub node-returns-in_ok-cell-in-Put-clause-evals : goal.node-returns-in_ok-cell-in-Put-clause-evals
node-returns-in_ok-cell-in-Put-clause-evals t c = λ g.
    let f = c.args.frame in let left = c.args.left in let at = c.args.at in let w = c.args.self.now in
    let n = c.requires.node ∙ ap Some c.in-Put.is in
    let o = put_two f left at w g c.in-Put.place' c.in-Put.place c.in-Put.number c.in-Put.list c.in-Put.index c.in-Put.value c.in-Put.rest n in
    let bx = c.in_ok-x-in-Put.ensures.beside in let by = c.in_ok-y-in-Put.ensures.beside in let bz = beside_then w c.eval-in-Put.new.self c.eval-in-Put-2.new.self bx by in
    let nx : to_z w32 (of_z w32 c.in_ok-x-in-Put.x) ≡ c.in_ok-x-in-Put.x = search rules in
    let z = c.eval-in-Put-2.new.self in let u = c.touch-in-Put.new.self in let t = two_tame f left at w g.book _ _ _ o c.in_ok-x-in-Put.x c.eval-in-Put.new.self c.in_ok-x-in-Put.ensures.evals bx c.in_ok-y-in-Put.y c.eval-in-Put-2.new.self c.in_ok-y-in-Put.ensures.evals in
    let a = c.in_ok-cell-in-Put.cell in let y = c.in_ok-y-in-Put.y in let h = c.store.new.self in
    let te = subst (λ x. Ends (Ok a) (touch (marked f.program.dropped.now) (record { place = c.in-Put.place; number = c.in-Put.number; list = c.in-Put.list }) (part_at f.parts.now c.in-Put.list) x (state_of z)) z u) nx c.in_ok-cell-in-Put.ensures.ends in
    let ny : to_z w32 (of_z w32 y) ≡ y = search rules in
    let se = store_ends a y u h c.store.ensures.fuel (c.store.ensures.cells ∙ ap (λ y. slice_set u.cells.now a y) ny) c.store.ensures.checks in
    let q = put_rest f left at w g c.in-Put.place' c.in-Put.place c.in-Put.number c.in-Put.list c.in-Put.index c.in-Put.value c.in-Put.rest n in
    let t2 = tame-rest _ _ tt u h (tame-rest _ _ a z u t te) se in
    let bu = beside_then w z u bz c.in_ok-cell-in-Put.ensures.beside in let bh = beside_then w u h bu c.store.ensures.beside in
    let r = c.eval-in-Put-3.result in let k = c.eval-in-Put-3.new.self in
    put_ends f left at w g c.in-Put.place' c.in-Put.place c.in-Put.number c.in-Put.list c.in-Put.index c.in-Put.value c.in-Put.rest n r k (two_then f left at w g.book _ _ _ o c.in_ok-x-in-Put.x c.eval-in-Put.new.self c.in_ok-x-in-Put.ensures.evals bx c.in_ok-y-in-Put.y c.eval-in-Put-2.new.self c.in_ok-y-in-Put.ensures.evals r k (ends-then _ _ a r z u k te (ends-then _ _ tt r u h k se (ends_here f left c.in-Put.rest h g.book q (frame_of f w) (same_frame f w h bh) t2 r k c.eval-in-Put-3.ensures.evals))))

pub node-returns-in-Claim-clause-evals : goal.node-returns-in-Claim-clause-evals
node-returns-in-Claim-clause-evals t c = λ g.
    let f = c.args.frame in let left = c.args.left in let at = c.args.at in let w = c.args.self.now in
    let n = c.requires.node ∙ ap Some c.in-Claim.is in
    claim_ends f left at w g c.in-Claim.place c.in-Claim.claimed c.in-Claim.conditions n c.eval-in-Claim.result c.eval-in-Claim.new.self c.eval-in-Claim.ensures.evals

pub node-returns-in-Blank-clause-evals : goal.node-returns-in-Blank-clause-evals
node-returns-in-Blank-clause-evals t c = λ g.
    let f = c.args.frame in let left = c.args.left in let at = c.args.at in let w = c.args.self.now in
    absurd (⊎_elim (λ e. no_blank f left at w g (c.requires.node ∙ ap Some e)) (λ o.
    ⊎_elim (λ e. no_end f left at w g (c.requires.node ∙ ap Some e)) (λ o.
    ⊎_elim (λ q. no_value f left at w g q.0 q.1 (c.requires.node ∙ ap Some q.2)) (λ q. no_lent f left at w g q.0 q.1 (c.requires.node ∙ ap Some q.2)) o) o) c.in-Blank.is)
