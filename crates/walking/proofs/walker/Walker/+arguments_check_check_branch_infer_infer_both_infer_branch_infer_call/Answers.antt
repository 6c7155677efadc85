-- Each answer is one way through the code: what stands at the node at hand, what its parts came to, and the lemma that puts them together. Each begins with names for the parts of its own goal, which has a type of its own.
use Rattle.std.proofs.Common.{◌≡◌, ℕ, suc, List, [], ◌∷◌, ◌++◌, length, take, Some, Option, Result, sym, ap, ◌∙◌, subst, inl, inr, arith, is_ok}
use Rattle.std.proofs.lemmas.List.{append-nil}
use Rattle.rows.specs.declared.row.Row.{Row}
use Rattle.language.specs.declared.term.Term.{Term}
use Rattle.language.specs.Comparing.{conditions_rows}
use Rattle.language.specs.Walking.{Mode, Scope, infer, walk, walks, assume, owe_all, or_fresh, fresh_with, first_fault}
use Rattle.language.proofs.Fitting.{worked-fits}
use Rattle.language.proofs.Laws.{fault-first}
use Rattle.pile.specs.Entries.{entries, room}
use Rattle.records.specs.declared.laid.Laid.{Laid}
use Rattle.records.specs.Columns.{tables_by}
use Rattle.records.specs.Laying.{columns_of, owed_of}
use Rattle.records.proofs.Inverting.{expr_as, args_as}
use Rattle.records.proofs.Standing.{low_end}
use Rattle.terms.specs.Listed.{list_of}
use Rattle.walking.specs.Inferring.{Inferring, Inferred, Given, Checking, Checked, branch, listed_in, mode_of}
use Rattle.walking.specs.Stepping.{Finds, Owed, facts_of, scope_of, stand_of}
use Rattle.walking.proofs.CalcArm.{num-inferred, name-inferred, calc-not, calc-inferred}
use Rattle.walking.proofs.ClaimArm.{claim-not, claim-inferred}
use Rattle.walking.proofs.Heads.{heads-stay}
use Rattle.walking.proofs.Here.{here, as-checking, if-kept, heads-with, listed-stay, mode-stays, mode-whole, fell}
use Rattle.walking.proofs.LastArm.{last-not, last-checked, plain_node}
use Rattle.walking.proofs.LetArm.{let-not-bound, let-not-body, let-body, let-term, let-checked}
use Rattle.walking.proofs.Parting.{tables_of, fallen-kept, branch-step, branch-not, both-not, both-step, right-waits, let-kept}
use Rattle.walking.proofs.PutArm.{put-not-parts, put-not-checks, put-rest, put-inferred, put-ended}
use Rattle.walking.proofs.ReadArm.{read-not-index, read-not-checks, read-inferred}
use Rattle.walking.proofs.Refusing.{inferred-not, checked-not, paired-not, given-not}
use Rattle.walking.proofs.Stepping.{kept-then, stays}
use Rattle.walking.proofs.TestArm.{test-not-parts, test-not-met, test-not-unmet, met-waits, met-step, unmet-waits, tested, tested-tree, test-inferred, test-ended}
use Rattle.language.specs.declared.refusal.Refusal.{Refusal}
use Rattle.language.specs.declared.refusal.Refusal.TheVariants.{Name}
use Rattle.language.specs.Tree.{shape}
use Rattle.records.specs.declared.node.Node.TheVariants.{Call, End, Value, Lent}
use Rattle.walking.proofs.Arguing.{pushed, not-full, room_left, none_given, value-refused, value-room, value-rest, value-given, lent-room, lent-given}
use Rattle.walking.proofs.Callees.{called, not-called, callee-found, none-found}
use Rattle.walking.proofs.Calls.{call-unnamed, call-ungiven, call-unowed, call-inferred}
use Rattle.walking.proofs.Knowings.{refused_as}
use Rattle.language.specs.Tree as Tree
use Rattle.walking.proofs.walker.Walker.+arguments_check_check_branch_infer_infer_both_infer_branch_infer_call.Goals as goal

pub infer-returns-in_err-t-in-Calc-clause-infers : goal.infer-returns-in_err-t-in-Calc-clause-infers
infer-returns-in_err-t-in-Calc-clause-infers t c = λ h R lo e hs st.
    let w = c.args.self.now in let at = c.args.at in
    let n = here (tables_of w).nodes.entries at c.node.result c.in_ok-node.node _ c.node.ensures c.in_ok-node.ensures.ok_part c.in-Calc.is in
    let q = expr_as (tables_by (tables_of w)) lo at e _ st n in
    inferred-not c.in_err-t-in-Calc.field-0.0 c.from_residual-in_err-t-in-Calc.result _ lo at w _ c.from_residual-in_err-t-in-Calc.ensures.1 (subst (λ x. first_fault (walk R infer (scope_of w) (stand_of w) x).notes ≡ Some c.in_err-t-in-Calc.field-0.0) (sym q.is)
    (calc-not R w lo at c.in-Calc.place c.in-Calc.left c.in-Calc.right c.in-Calc.operator q.left q.right c.in_err-t-in-Calc.field-0.0 (c.in_err-t-in-Calc.ensures.pairs q.left_below q.right_below R lo q.left q.right hs q.left_stands q.right_stands)))

pub infer-or_fresh-requires-clause-fits : goal.infer-or_fresh-requires-clause-fits
infer-or_fresh-requires-clause-fits t c = λ x e.
    worked-fits _ _ _ x (sym c.worked.ensures ∙ e)

pub infer-returns-in_ok-t-in-Calc-clause-infers : goal.infer-returns-in_ok-t-in-Calc-clause-infers
infer-returns-in_ok-t-in-Calc-clause-infers t c = λ h R lo e hs st.
    let w = c.args.self.now in let at = c.args.at in
    let n = here (tables_of w).nodes.entries at c.node.result c.in_ok-node.node _ c.node.ensures c.in_ok-node.ensures.ok_part c.in-Calc.is in
    let q = expr_as (tables_by (tables_of w)) lo at e _ st n in
    let f = subst (λ (o : Option Term). Finds c.or_fresh.result (or_fresh c.in-Calc.place o (stand_of c.infer_both.new.self) []) c.infer_both.new.self c.or_fresh.new.self) c.worked.ensures c.or_fresh.ensures.finds in
    subst (λ x. Inferred c.or_fresh.result (walk R infer (scope_of w) (stand_of w) x) lo at w c.or_fresh.new.self) (sym q.is)
    (calc-inferred R w lo at c.in-Calc.place c.in-Calc.left c.in-Calc.right c.in-Calc.operator q.left q.right c.or_fresh.result c.in_ok-t-in-Calc.t c.in_ok-t-in-Calc.u c.infer_both.new.self c.or_fresh.new.self n q.left_below q.right_below (c.in_ok-t-in-Calc.ensures.pairs q.left_below q.right_below R lo q.left q.right hs q.left_stands q.right_stands) f)

pub infer-returns-in_err-t-in-Read-clause-infers : goal.infer-returns-in_err-t-in-Read-clause-infers
infer-returns-in_err-t-in-Read-clause-infers t c = λ h R lo e hs st.
    let w = c.args.self.now in let at = c.args.at in
    let n = here (tables_of w).nodes.entries at c.node.result c.in_ok-node.node _ c.node.ensures c.in_ok-node.ensures.ok_part c.in-Read.is in
    let q = expr_as (tables_by (tables_of w)) lo at e _ st n in
    inferred-not c.in_err-t-in-Read.field-0.0 c.from_residual-in_err-t-in-Read.result _ lo at w _ c.from_residual-in_err-t-in-Read.ensures.1 (subst (λ x. first_fault (walk R infer (scope_of w) (stand_of w) x).notes ≡ Some c.in_err-t-in-Read.field-0.0) (sym q.is)
    (read-not-index R w lo at c.in-Read.place c.in-Read.number c.in-Read.list c.in-Read.index q.index c.in_err-t-in-Read.field-0.0 (c.in_err-t-in-Read.ensures.infers q.index_below R lo q.index hs q.index_stands)))

pub infer-returns-in_err-touch-in-Read-clause-infers : goal.infer-returns-in_err-touch-in-Read-clause-infers
infer-returns-in_err-touch-in-Read-clause-infers t c = λ h R lo e hs st.
    let w = c.args.self.now in let at = c.args.at in
    let n = here (tables_of w).nodes.entries at c.node.result c.in_ok-node.node _ c.node.ensures c.in_ok-node.ensures.ok_part c.in-Read.is in
    let q = expr_as (tables_by (tables_of w)) lo at e _ st n in
    let low = low_end (tables_by (tables_of w)) lo at e st in
    inferred-not c.in_err-touch-in-Read.field-0.0 c.from_residual-in_err-touch-in-Read.result _ lo at w _ c.from_residual-in_err-touch-in-Read.ensures.1 (subst (λ x. first_fault (walk R infer (scope_of w) (stand_of w) x).notes ≡ Some c.in_err-touch-in-Read.field-0.0) (sym q.is)
    (read-not-checks R w lo at c.in-Read.place c.in-Read.number c.in-Read.list c.in-Read.index q.index c.in_ok-t-in-Read.t c.infer.new.self n q.index_below low (c.in_ok-t-in-Read.ensures.infers q.index_below R lo q.index hs q.index_stands) c.in_err-touch-in-Read.field-0.0 c.in_err-touch-in-Read.ensures.stepped))

pub infer-returns-in_ok-touch-in-Read-clause-infers : goal.infer-returns-in_ok-touch-in-Read-clause-infers
infer-returns-in_ok-touch-in-Read-clause-infers t c = λ h R lo e hs st.
    let w = c.args.self.now in let at = c.args.at in
    let n = here (tables_of w).nodes.entries at c.node.result c.in_ok-node.node _ c.node.ensures c.in_ok-node.ensures.ok_part c.in-Read.is in
    let q = expr_as (tables_by (tables_of w)) lo at e _ st n in
    let low = low_end (tables_by (tables_of w)) lo at e st in
    subst (λ x. Inferred c.fresh.result (walk R infer (scope_of w) (stand_of w) x) lo at w c.fresh.new.self) (sym q.is)
    (read-inferred R w lo at c.in-Read.place c.in-Read.number c.in-Read.list c.in-Read.index q.index c.in_ok-t-in-Read.t c.infer.new.self n q.index_below low (c.in_ok-t-in-Read.ensures.infers q.index_below R lo q.index hs q.index_stands) c.fresh.result c.touch.new.self c.fresh.new.self c.in_ok-touch-in-Read.ensures.stepped c.fresh.ensures.finds)

pub infer-returns-in_ok-touch-in-Read-clause-kept : goal.infer-returns-in_ok-touch-in-Read-clause-kept
infer-returns-in_ok-touch-in-Read-clause-kept t c =
    let w = c.args.self.now in
    if-kept c.fresh.result w c.touch.new.self c.fresh.new.self (kept-then w c.infer.new.self c.touch.new.self c.in_ok-t-in-Read.ensures.kept c.in_ok-touch-in-Read.ensures.kept) c.fresh.ensures.kept

pub infer-returns-in_err-t-in-Bind-clause-infers : goal.infer-returns-in_err-t-in-Bind-clause-infers
infer-returns-in_err-t-in-Bind-clause-infers t c = λ h R lo e hs st.
    let w = c.args.self.now in let at = c.args.at in
    let n = here (tables_of w).nodes.entries at c.node.result c.in_ok-node.node _ c.node.ensures c.in_ok-node.ensures.ok_part c.in-Bind.is in
    let q = expr_as (tables_by (tables_of w)) lo at e _ st n in
    inferred-not c.in_err-t-in-Bind.field-0.0 c.from_residual-in_err-t-in-Bind.result _ lo at w _ c.from_residual-in_err-t-in-Bind.ensures.1 (subst (λ x. first_fault (walk R infer (scope_of w) (stand_of w) x).notes ≡ Some c.in_err-t-in-Bind.field-0.0) (sym q.is)
    (let-not-bound R infer w lo at c.in-Bind.place c.in-Bind.bound c.in-Bind.body q.bound q.body c.in_err-t-in-Bind.field-0.0 (c.in_err-t-in-Bind.ensures.infers q.bound_below R lo q.bound hs q.bound_stands)))

pub infer-returns-in_err-u-in-Bind-clause-infers : goal.infer-returns-in_err-u-in-Bind-clause-infers
infer-returns-in_err-u-in-Bind-clause-infers t c = λ h R lo e hs st.
    let w = c.args.self.now in let at = c.args.at in
    let n = here (tables_of w).nodes.entries at c.node.result c.in_ok-node.node _ c.node.ensures c.in_ok-node.ensures.ok_part c.in-Bind.is in
    let q = expr_as (tables_by (tables_of w)) lo at e _ st n in
    let i = c.in_ok-t-in-Bind.ensures.infers q.bound_below R lo q.bound hs q.bound_stands in let b = c.enter-names.ensures.beside in let names = c.enter-names.ensures.names in
    let hu = heads-with R c.infer-in-Bind.new.self c.enter-names.new.self b.tables (heads-stay lo c.in-Bind.bound _ _ w c.infer-in-Bind.new.self R i.step hs) in
    let su = let-body R infer w lo at c.in-Bind.place c.in-Bind.bound c.in-Bind.body q.bound q.body c.in_ok-t-in-Bind.t c.infer-in-Bind.new.self c.enter-names.new.self i names b q.body_stands in
    inferred-not c.in_err-u-in-Bind.field-0.0 c.from_residual-in_err-u-in-Bind.result _ lo at w _ c.from_residual-in_err-u-in-Bind.ensures.1 (subst (λ x. first_fault (walk R infer (scope_of w) (stand_of w) x).notes ≡ Some c.in_err-u-in-Bind.field-0.0) (sym q.is)
    (let-not-body R infer w lo at c.in-Bind.place c.in-Bind.bound c.in-Bind.body q.bound q.body c.in_ok-t-in-Bind.t c.infer-in-Bind.new.self c.enter-names.new.self i names b c.in_err-u-in-Bind.field-0.0 (c.in_err-u-in-Bind.ensures.infers q.body_below R (suc c.in-Bind.bound) q.body hu su)))

pub infer-returns-in_ok-u-in-Bind-clause-infers : goal.infer-returns-in_ok-u-in-Bind-clause-infers
infer-returns-in_ok-u-in-Bind-clause-infers t c = λ h R lo e hs st.
    let w = c.args.self.now in let at = c.args.at in
    let n = here (tables_of w).nodes.entries at c.node.result c.in_ok-node.node _ c.node.ensures c.in_ok-node.ensures.ok_part c.in-Bind.is in
    let q = expr_as (tables_by (tables_of w)) lo at e _ st n in
    let i = c.in_ok-t-in-Bind.ensures.infers q.bound_below R lo q.bound hs q.bound_stands in let b = c.enter-names.ensures.beside in let names = c.enter-names.ensures.names in
    let hu = heads-with R c.infer-in-Bind.new.self c.enter-names.new.self b.tables (heads-stay lo c.in-Bind.bound _ _ w c.infer-in-Bind.new.self R i.step hs) in
    let su = let-body R infer w lo at c.in-Bind.place c.in-Bind.bound c.in-Bind.body q.bound q.body c.in_ok-t-in-Bind.t c.infer-in-Bind.new.self c.enter-names.new.self i names b q.body_stands in
    let j = c.in_ok-u-in-Bind.ensures.infers q.body_below R (suc c.in-Bind.bound) q.body hu su in let back = c.leave.ensures.names ∙ ap (λ n. take n (entries c.infer-in-Bind-2.new.self.names.now)) c.enter-names.ensures.mark in
    let k = let-checked R infer w lo at c.in-Bind.place c.in-Bind.bound c.in-Bind.body q.bound q.body c.in_ok-t-in-Bind.t c.infer-in-Bind.new.self c.enter-names.new.self i names b c.infer-in-Bind-2.new.self c.leave.new.self back c.leave.ensures.beside c.in_ok-t-in-Bind.ensures.kept.sure n q.bound_below q.body_below (as-checking c.in_ok-u-in-Bind.u _ (suc c.in-Bind.bound) c.in-Bind.body c.enter-names.new.self c.infer-in-Bind-2.new.self j) in
    subst (λ x. Inferring c.in_ok-u-in-Bind.u (walk R infer (scope_of w) (stand_of w) x) lo at w c.leave.new.self) (sym q.is)
    (record { term = let-term R infer w lo at c.in-Bind.place c.in-Bind.bound c.in-Bind.body q.bound q.body c.in_ok-t-in-Bind.t c.infer-in-Bind.new.self c.enter-names.new.self i names b c.in_ok-u-in-Bind.u j.term; step = k.step; tree = k.tree })

pub infer-returns-in_ok-u-in-Bind-clause-kept : goal.infer-returns-in_ok-u-in-Bind-clause-kept
infer-returns-in_ok-u-in-Bind-clause-kept t c =
    let w = c.args.self.now in let t = c.in_ok-t-in-Bind in let back = c.leave.ensures.names ∙ ap (λ n. take n (entries c.infer-in-Bind-2.new.self.names.now)) c.enter-names.ensures.mark in
    kept-then w c.infer-in-Bind.new.self c.leave.new.self t.ensures.kept (let-kept c.infer-in-Bind.new.self c.enter-names.new.self c.infer-in-Bind-2.new.self c.leave.new.self t.t c.enter-names.ensures.names c.enter-names.ensures.beside back c.leave.ensures.beside t.ensures.kept.sure c.in_ok-u-in-Bind.ensures.kept)

pub check-returns-in_err-t-in-Bind-clause-checks : goal.check-returns-in_err-t-in-Bind-clause-checks
check-returns-in_err-t-in-Bind-clause-checks t c = λ h R lo e hs st.
    let w = c.args.self.now in let at = c.args.at in
    let n = here (tables_of w).nodes.entries at c.node.result c.in_ok-node.node _ c.node.ensures c.in_ok-node.ensures.ok_part c.in-Bind.is in
    let q = expr_as (tables_by (tables_of w)) lo at e _ st n in
    let m = mode_of c.args.promise w in
    checked-not c.in_err-t-in-Bind.field-0.0 c.from_residual-in_err-t-in-Bind.result _ lo at w _ c.from_residual-in_err-t-in-Bind.ensures.1 (subst (λ x. first_fault (walk R (mode_of c.args.promise w) (scope_of w) (stand_of w) x).notes ≡ Some c.in_err-t-in-Bind.field-0.0) (sym q.is)
    (let-not-bound R (mode_of c.args.promise w) w lo at c.in-Bind.place c.in-Bind.bound c.in-Bind.body q.bound q.body c.in_err-t-in-Bind.field-0.0 (c.in_err-t-in-Bind.ensures.infers q.bound_below R lo q.bound hs q.bound_stands)))

pub check-returns-in_err-check-in-Bind-clause-checks : goal.check-returns-in_err-check-in-Bind-clause-checks
check-returns-in_err-check-in-Bind-clause-checks t c = λ h R lo e hs st.
    let w = c.args.self.now in let at = c.args.at in
    let n = here (tables_of w).nodes.entries at c.node.result c.in_ok-node.node _ c.node.ensures c.in_ok-node.ensures.ok_part c.in-Bind.is in
    let q = expr_as (tables_by (tables_of w)) lo at e _ st n in
    let m = mode_of c.args.promise w in
    let i = c.in_ok-t-in-Bind.ensures.infers q.bound_below R lo q.bound hs q.bound_stands in let b = c.enter-names.ensures.beside in let names = c.enter-names.ensures.names in
    let hu = heads-with R c.infer.new.self c.enter-names.new.self b.tables (heads-stay lo c.in-Bind.bound _ _ w c.infer.new.self R i.step hs) in
    let su = let-body R (mode_of c.args.promise w) w lo at c.in-Bind.place c.in-Bind.bound c.in-Bind.body q.bound q.body c.in_ok-t-in-Bind.t c.infer.new.self c.enter-names.new.self i names b q.body_stands in
    let ms = mode-stays c.args.promise w c.enter-names.new.self c.requires.names (c.in_ok-t-in-Bind.t ∷ []) (names ∙ ap (λ (G : Scope). G.names ++ c.in_ok-t-in-Bind.t ∷ []) i.step.kept.scope) (ap (λ (x : Laid). listed_in (columns_of x) c.args.promise.conditions) b.tables ∙ listed-stay lo c.in-Bind.bound _ _ w c.infer.new.self c.args.promise.conditions i.step) in
    checked-not c.in_err-check-in-Bind.field-0.0 c.from_residual-in_err-check-in-Bind.result _ lo at w _ c.from_residual-in_err-check-in-Bind.ensures.1 (subst (λ x. first_fault (walk R (mode_of c.args.promise w) (scope_of w) (stand_of w) x).notes ≡ Some c.in_err-check-in-Bind.field-0.0) (sym q.is)
    (let-not-body R (mode_of c.args.promise w) w lo at c.in-Bind.place c.in-Bind.bound c.in-Bind.body q.bound q.body c.in_ok-t-in-Bind.t c.infer.new.self c.enter-names.new.self i names b c.in_err-check-in-Bind.field-0.0 (subst (λ m. first_fault (walk R m (scope_of c.enter-names.new.self) (stand_of c.enter-names.new.self) q.body).notes ≡ Some c.in_err-check-in-Bind.field-0.0) ms (c.in_err-check-in-Bind.ensures.checks q.body_below R (suc c.in-Bind.bound) q.body hu su))))

pub check-returns-in_ok-check-in-Bind-clause-checks : goal.check-returns-in_ok-check-in-Bind-clause-checks
check-returns-in_ok-check-in-Bind-clause-checks t c = λ h R lo e hs st.
    let w = c.args.self.now in let at = c.args.at in
    let n = here (tables_of w).nodes.entries at c.node.result c.in_ok-node.node _ c.node.ensures c.in_ok-node.ensures.ok_part c.in-Bind.is in
    let q = expr_as (tables_by (tables_of w)) lo at e _ st n in
    let m = mode_of c.args.promise w in
    let i = c.in_ok-t-in-Bind.ensures.infers q.bound_below R lo q.bound hs q.bound_stands in let b = c.enter-names.ensures.beside in let names = c.enter-names.ensures.names in
    let hu = heads-with R c.infer.new.self c.enter-names.new.self b.tables (heads-stay lo c.in-Bind.bound _ _ w c.infer.new.self R i.step hs) in
    let su = let-body R (mode_of c.args.promise w) w lo at c.in-Bind.place c.in-Bind.bound c.in-Bind.body q.bound q.body c.in_ok-t-in-Bind.t c.infer.new.self c.enter-names.new.self i names b q.body_stands in
    let ms = mode-stays c.args.promise w c.enter-names.new.self c.requires.names (c.in_ok-t-in-Bind.t ∷ []) (names ∙ ap (λ (G : Scope). G.names ++ c.in_ok-t-in-Bind.t ∷ []) i.step.kept.scope) (ap (λ (x : Laid). listed_in (columns_of x) c.args.promise.conditions) b.tables ∙ listed-stay lo c.in-Bind.bound _ _ w c.infer.new.self c.args.promise.conditions i.step) in
    let j = subst (λ m. Checking (walk R m (scope_of c.enter-names.new.self) (stand_of c.enter-names.new.self) q.body) (suc c.in-Bind.bound) c.in-Bind.body c.enter-names.new.self c.check.new.self) ms (c.in_ok-check-in-Bind.ensures.checks q.body_below R (suc c.in-Bind.bound) q.body hu su) in let back = c.leave.ensures.names ∙ ap (λ n. take n (entries c.check.new.self.names.now)) c.enter-names.ensures.mark in
    subst (λ x. Checking (walk R (mode_of c.args.promise w) (scope_of w) (stand_of w) x) lo at w c.leave.new.self) (sym q.is)
    (let-checked R (mode_of c.args.promise w) w lo at c.in-Bind.place c.in-Bind.bound c.in-Bind.body q.bound q.body c.in_ok-t-in-Bind.t c.infer.new.self c.enter-names.new.self i names b c.check.new.self c.leave.new.self back c.leave.ensures.beside c.in_ok-t-in-Bind.ensures.kept.sure n q.bound_below q.body_below j)

pub check-returns-in_ok-check-in-Bind-clause-kept : goal.check-returns-in_ok-check-in-Bind-clause-kept
check-returns-in_ok-check-in-Bind-clause-kept t c =
    let w = c.args.self.now in let t = c.in_ok-t-in-Bind in let back = c.leave.ensures.names ∙ ap (λ n. take n (entries c.check.new.self.names.now)) c.enter-names.ensures.mark in
    kept-then w c.infer.new.self c.leave.new.self t.ensures.kept (let-kept c.infer.new.self c.enter-names.new.self c.check.new.self c.leave.new.self t.t c.enter-names.ensures.names c.enter-names.ensures.beside back c.leave.ensures.beside t.ensures.kept.sure c.in_ok-check-in-Bind.ensures.kept)

pub infer-returns-in_err-t-in-Test-clause-infers : goal.infer-returns-in_err-t-in-Test-clause-infers
infer-returns-in_err-t-in-Test-clause-infers t c = λ h R lo e hs st.
    let w = c.args.self.now in let at = c.args.at in
    let n = here (tables_of w).nodes.entries at c.node.result c.in_ok-node.node _ c.node.ensures c.in_ok-node.ensures.ok_part c.in-Test.is in
    let q = expr_as (tables_by (tables_of w)) lo at e _ st n in
    inferred-not c.in_err-t-in-Test.field-0.0 c.from_residual-in_err-t-in-Test.result _ lo at w _ c.from_residual-in_err-t-in-Test.ensures.1 (subst (λ x. first_fault (walk R infer (scope_of w) (stand_of w) x).notes ≡ Some c.in_err-t-in-Test.field-0.0) (sym q.is)
    (test-not-parts R infer w lo at c.in-Test.place c.in-Test.left c.in-Test.right c.in-Test.met c.in-Test.unmet c.in-Test.comparison q.left q.right q.met q.unmet c.in_err-t-in-Test.field-0.0 (c.in_err-t-in-Test.ensures.pairs q.left_below q.right_below R lo q.left q.right hs q.left_stands q.right_stands)))

pub infer-returns-in_err-infer_branch-in-Test-clause-infers : goal.infer-returns-in_err-infer_branch-in-Test-clause-infers
infer-returns-in_err-infer_branch-in-Test-clause-infers t c = λ h R lo e hs st.
    let w = c.args.self.now in let at = c.args.at in
    let n = here (tables_of w).nodes.entries at c.node.result c.in_ok-node.node _ c.node.ensures c.in_ok-node.ensures.ok_part c.in-Test.is in
    let q = expr_as (tables_by (tables_of w)) lo at e _ st n in
    let pair = c.in_ok-t-in-Test.ensures.pairs q.left_below q.right_below R lo q.left q.right hs q.left_stands q.right_stands in
    let hv = heads-stay lo c.in-Test.right _ _ w c.infer_both-in-Test.new.self R pair.step hs in
    let sv = met-waits R infer w lo at c.in-Test.place c.in-Test.left c.in-Test.right c.in-Test.met c.in-Test.unmet c.in-Test.comparison q.left q.right q.met q.unmet c.in_ok-t-in-Test.t c.in_ok-t-in-Test.u c.infer_both-in-Test.new.self pair q.met_stands in
    inferred-not c.in_err-infer_branch-in-Test.field-0.0 c.from_residual-in_err-infer_branch-in-Test.result _ lo at w _ c.from_residual-in_err-infer_branch-in-Test.ensures.1 (subst (λ x. first_fault (walk R infer (scope_of w) (stand_of w) x).notes ≡ Some c.in_err-infer_branch-in-Test.field-0.0) (sym q.is)
    (test-not-met R infer w lo at c.in-Test.place c.in-Test.left c.in-Test.right c.in-Test.met c.in-Test.unmet c.in-Test.comparison q.left q.right q.met q.unmet c.in_ok-t-in-Test.t c.in_ok-t-in-Test.u c.infer_both-in-Test.new.self pair c.in_err-infer_branch-in-Test.field-0.0 (subst (λ (rs : List (Option Row)). first_fault (branch R infer (scope_of c.infer_both-in-Test.new.self) c.in-Test.place (stand_of c.infer_both-in-Test.new.self) rs q.met).notes ≡ Some c.in_err-infer_branch-in-Test.field-0.0) c.rows.ensures (c.in_err-infer_branch-in-Test.ensures.branches q.met_below R (suc c.in-Test.right) q.met hv sv))))

pub infer-returns-in_err-infer_branch-in-Test-2-clause-infers : goal.infer-returns-in_err-infer_branch-in-Test-2-clause-infers
infer-returns-in_err-infer_branch-in-Test-2-clause-infers t c = λ h R lo e hs st.
    let w = c.args.self.now in let at = c.args.at in
    let n = here (tables_of w).nodes.entries at c.node.result c.in_ok-node.node _ c.node.ensures c.in_ok-node.ensures.ok_part c.in-Test.is in
    let q = expr_as (tables_by (tables_of w)) lo at e _ st n in
    let pair = c.in_ok-t-in-Test.ensures.pairs q.left_below q.right_below R lo q.left q.right hs q.left_stands q.right_stands in
    let hv = heads-stay lo c.in-Test.right _ _ w c.infer_both-in-Test.new.self R pair.step hs in
    let sv = met-waits R infer w lo at c.in-Test.place c.in-Test.left c.in-Test.right c.in-Test.met c.in-Test.unmet c.in-Test.comparison q.left q.right q.met q.unmet c.in_ok-t-in-Test.t c.in_ok-t-in-Test.u c.infer_both-in-Test.new.self pair q.met_stands in
    let first = (subst (λ (rs : List (Option Row)). Checking (branch R infer (scope_of c.infer_both-in-Test.new.self) c.in-Test.place (stand_of c.infer_both-in-Test.new.self) rs q.met) (suc c.in-Test.right) c.in-Test.met c.infer_both-in-Test.new.self c.infer_branch.new.self) c.rows.ensures (c.in_ok-infer_branch-in-Test.ensures.branches q.met_below R (suc c.in-Test.right) q.met hv sv)) in
    let hx = heads-stay (suc c.in-Test.right) c.in-Test.met _ _ c.infer_both-in-Test.new.self c.infer_branch.new.self R (met-step R infer w lo at c.in-Test.place c.in-Test.left c.in-Test.right c.in-Test.met c.in-Test.unmet c.in-Test.comparison q.left q.right q.met q.unmet c.in_ok-t-in-Test.t c.in_ok-t-in-Test.u c.infer_both-in-Test.new.self pair c.infer_branch.new.self first) hv in let sx = unmet-waits R infer w lo at c.in-Test.place c.in-Test.left c.in-Test.right c.in-Test.met c.in-Test.unmet c.in-Test.comparison q.left q.right q.met q.unmet c.in_ok-t-in-Test.t c.in_ok-t-in-Test.u c.infer_both-in-Test.new.self pair c.infer_branch.new.self first q.unmet_stands in
    inferred-not c.in_err-infer_branch-in-Test-2.field-0.0 c.from_residual-in_err-infer_branch-in-Test-2.result _ lo at w _ c.from_residual-in_err-infer_branch-in-Test-2.ensures.1 (subst (λ x. first_fault (walk R infer (scope_of w) (stand_of w) x).notes ≡ Some c.in_err-infer_branch-in-Test-2.field-0.0) (sym q.is)
    (test-not-unmet R infer w lo at c.in-Test.place c.in-Test.left c.in-Test.right c.in-Test.met c.in-Test.unmet c.in-Test.comparison q.left q.right q.met q.unmet c.in_ok-t-in-Test.t c.in_ok-t-in-Test.u c.infer_both-in-Test.new.self pair c.infer_branch.new.self first c.in_err-infer_branch-in-Test-2.field-0.0 (subst (λ (rs : List (Option Row)). first_fault (branch R infer (scope_of c.infer_branch.new.self) c.in-Test.place (stand_of c.infer_branch.new.self) rs q.unmet).notes ≡ Some c.in_err-infer_branch-in-Test-2.field-0.0) c.otherwise.ensures (c.in_err-infer_branch-in-Test-2.ensures.branches q.unmet_below R (suc c.in-Test.met) q.unmet hx sx))))

pub infer-returns-in_ok-infer_branch-in-Test-2-clause-infers : goal.infer-returns-in_ok-infer_branch-in-Test-2-clause-infers
infer-returns-in_ok-infer_branch-in-Test-2-clause-infers t c = λ h R lo e hs st.
    let w = c.args.self.now in let at = c.args.at in
    let n = here (tables_of w).nodes.entries at c.node.result c.in_ok-node.node _ c.node.ensures c.in_ok-node.ensures.ok_part c.in-Test.is in
    let q = expr_as (tables_by (tables_of w)) lo at e _ st n in
    let pair = c.in_ok-t-in-Test.ensures.pairs q.left_below q.right_below R lo q.left q.right hs q.left_stands q.right_stands in
    let hv = heads-stay lo c.in-Test.right _ _ w c.infer_both-in-Test.new.self R pair.step hs in
    let sv = met-waits R infer w lo at c.in-Test.place c.in-Test.left c.in-Test.right c.in-Test.met c.in-Test.unmet c.in-Test.comparison q.left q.right q.met q.unmet c.in_ok-t-in-Test.t c.in_ok-t-in-Test.u c.infer_both-in-Test.new.self pair q.met_stands in
    let first = (subst (λ (rs : List (Option Row)). Checking (branch R infer (scope_of c.infer_both-in-Test.new.self) c.in-Test.place (stand_of c.infer_both-in-Test.new.self) rs q.met) (suc c.in-Test.right) c.in-Test.met c.infer_both-in-Test.new.self c.infer_branch.new.self) c.rows.ensures (c.in_ok-infer_branch-in-Test.ensures.branches q.met_below R (suc c.in-Test.right) q.met hv sv)) in
    let hx = heads-stay (suc c.in-Test.right) c.in-Test.met _ _ c.infer_both-in-Test.new.self c.infer_branch.new.self R (met-step R infer w lo at c.in-Test.place c.in-Test.left c.in-Test.right c.in-Test.met c.in-Test.unmet c.in-Test.comparison q.left q.right q.met q.unmet c.in_ok-t-in-Test.t c.in_ok-t-in-Test.u c.infer_both-in-Test.new.self pair c.infer_branch.new.self first) hv in let sx = unmet-waits R infer w lo at c.in-Test.place c.in-Test.left c.in-Test.right c.in-Test.met c.in-Test.unmet c.in-Test.comparison q.left q.right q.met q.unmet c.in_ok-t-in-Test.t c.in_ok-t-in-Test.u c.infer_both-in-Test.new.self pair c.infer_branch.new.self first q.unmet_stands in
    let second = (subst (λ (rs : List (Option Row)). Checking (branch R infer (scope_of c.infer_branch.new.self) c.in-Test.place (stand_of c.infer_branch.new.self) rs q.unmet) (suc c.in-Test.met) c.in-Test.unmet c.infer_branch.new.self c.infer_branch-in-Test.new.self) c.otherwise.ensures (c.in_ok-infer_branch-in-Test-2.ensures.branches q.unmet_below R (suc c.in-Test.met) q.unmet hx sx)) in
    subst (λ x. Inferred c.fresh-in-Test.result (walk R infer (scope_of w) (stand_of w) x) lo at w c.fresh-in-Test.new.self) (sym q.is)
    (test-inferred R w lo at c.in-Test.place c.in-Test.left c.in-Test.right c.in-Test.met c.in-Test.unmet c.in-Test.comparison q.left q.right q.met q.unmet c.infer_branch-in-Test.new.self c.fresh-in-Test.result c.fresh-in-Test.new.self (tested R infer w lo at c.in-Test.place c.in-Test.left c.in-Test.right c.in-Test.met c.in-Test.unmet c.in-Test.comparison q.left q.right q.met q.unmet c.in_ok-t-in-Test.t c.in_ok-t-in-Test.u c.infer_both-in-Test.new.self pair c.infer_branch.new.self first c.infer_branch-in-Test.new.self second n q.left_below q.right_below q.met_below q.unmet_below) (tested-tree R infer w lo at c.in-Test.place c.in-Test.left c.in-Test.right c.in-Test.met c.in-Test.unmet c.in-Test.comparison q.left q.right q.met q.unmet c.in_ok-t-in-Test.t c.in_ok-t-in-Test.u c.infer_both-in-Test.new.self pair c.infer_branch.new.self first c.infer_branch-in-Test.new.self second n q.left_below q.right_below q.met_below q.unmet_below) c.fresh-in-Test.ensures.finds)

pub infer-returns-in_ok-infer_branch-in-Test-2-clause-kept : goal.infer-returns-in_ok-infer_branch-in-Test-2-clause-kept
infer-returns-in_ok-infer_branch-in-Test-2-clause-kept t c =
    let w = c.args.self.now in
    if-kept c.fresh-in-Test.result w c.infer_branch-in-Test.new.self c.fresh-in-Test.new.self (kept-then w c.infer_both-in-Test.new.self c.infer_branch-in-Test.new.self c.in_ok-t-in-Test.ensures.kept (kept-then c.infer_both-in-Test.new.self c.infer_branch.new.self c.infer_branch-in-Test.new.self c.in_ok-infer_branch-in-Test.ensures.kept c.in_ok-infer_branch-in-Test-2.ensures.kept)) c.fresh-in-Test.ensures.kept

pub check-returns-in_err-t-in-Test-clause-checks : goal.check-returns-in_err-t-in-Test-clause-checks
check-returns-in_err-t-in-Test-clause-checks t c = λ h R lo e hs st.
    let w = c.args.self.now in let at = c.args.at in
    let n = here (tables_of w).nodes.entries at c.node.result c.in_ok-node.node _ c.node.ensures c.in_ok-node.ensures.ok_part c.in-Test.is in
    let q = expr_as (tables_by (tables_of w)) lo at e _ st n in
    let m = mode_of c.args.promise w in
    checked-not c.in_err-t-in-Test.field-0.0 c.from_residual-in_err-t-in-Test.result _ lo at w _ c.from_residual-in_err-t-in-Test.ensures.1 (subst (λ x. first_fault (walk R (mode_of c.args.promise w) (scope_of w) (stand_of w) x).notes ≡ Some c.in_err-t-in-Test.field-0.0) (sym q.is)
    (test-not-parts R (mode_of c.args.promise w) w lo at c.in-Test.place c.in-Test.left c.in-Test.right c.in-Test.met c.in-Test.unmet c.in-Test.comparison q.left q.right q.met q.unmet c.in_err-t-in-Test.field-0.0 (c.in_err-t-in-Test.ensures.pairs q.left_below q.right_below R lo q.left q.right hs q.left_stands q.right_stands)))

pub check-returns-in_err-check_branch-in-Test-clause-checks : goal.check-returns-in_err-check_branch-in-Test-clause-checks
check-returns-in_err-check_branch-in-Test-clause-checks t c = λ h R lo e hs st.
    let w = c.args.self.now in let at = c.args.at in
    let n = here (tables_of w).nodes.entries at c.node.result c.in_ok-node.node _ c.node.ensures c.in_ok-node.ensures.ok_part c.in-Test.is in
    let q = expr_as (tables_by (tables_of w)) lo at e _ st n in
    let m = mode_of c.args.promise w in
    let pair = c.in_ok-t-in-Test.ensures.pairs q.left_below q.right_below R lo q.left q.right hs q.left_stands q.right_stands in
    let hv = heads-stay lo c.in-Test.right _ _ w c.infer_both.new.self R pair.step hs in
    let sv = met-waits R (mode_of c.args.promise w) w lo at c.in-Test.place c.in-Test.left c.in-Test.right c.in-Test.met c.in-Test.unmet c.in-Test.comparison q.left q.right q.met q.unmet c.in_ok-t-in-Test.t c.in_ok-t-in-Test.u c.infer_both.new.self pair q.met_stands in
    let mv = mode-stays c.args.promise w c.infer_both.new.self c.requires.names [] (ap (λ (G : Scope). G.names) pair.step.kept.scope ∙ sym (append-nil (entries w.names.now))) (listed-stay lo c.in-Test.right _ _ w c.infer_both.new.self c.args.promise.conditions pair.step) in
    checked-not c.in_err-check_branch-in-Test.field-0.0 c.from_residual-in_err-check_branch-in-Test.result _ lo at w _ c.from_residual-in_err-check_branch-in-Test.ensures.1 (subst (λ x. first_fault (walk R (mode_of c.args.promise w) (scope_of w) (stand_of w) x).notes ≡ Some c.in_err-check_branch-in-Test.field-0.0) (sym q.is)
    (test-not-met R (mode_of c.args.promise w) w lo at c.in-Test.place c.in-Test.left c.in-Test.right c.in-Test.met c.in-Test.unmet c.in-Test.comparison q.left q.right q.met q.unmet c.in_ok-t-in-Test.t c.in_ok-t-in-Test.u c.infer_both.new.self pair c.in_err-check_branch-in-Test.field-0.0 (subst (λ (rs : List (Option Row)). first_fault (branch R (mode_of c.args.promise w) (scope_of c.infer_both.new.self) c.in-Test.place (stand_of c.infer_both.new.self) rs q.met).notes ≡ Some c.in_err-check_branch-in-Test.field-0.0) c.rows.ensures (subst (λ (m : Mode). first_fault (branch R m (scope_of c.infer_both.new.self) c.in-Test.place (stand_of c.infer_both.new.self) (list_of c.rows.result) q.met).notes ≡ Some c.in_err-check_branch-in-Test.field-0.0) mv (c.in_err-check_branch-in-Test.ensures.branches q.met_below R (suc c.in-Test.right) q.met hv sv)))))

pub check-returns-in_ok-check_branch-in-Test-clause-checks : goal.check-returns-in_ok-check_branch-in-Test-clause-checks
check-returns-in_ok-check_branch-in-Test-clause-checks t c = λ h R lo e hs st.
    let w = c.args.self.now in let at = c.args.at in
    let n = here (tables_of w).nodes.entries at c.node.result c.in_ok-node.node _ c.node.ensures c.in_ok-node.ensures.ok_part c.in-Test.is in
    let q = expr_as (tables_by (tables_of w)) lo at e _ st n in
    let m = mode_of c.args.promise w in
    let pair = c.in_ok-t-in-Test.ensures.pairs q.left_below q.right_below R lo q.left q.right hs q.left_stands q.right_stands in
    let hv = heads-stay lo c.in-Test.right _ _ w c.infer_both.new.self R pair.step hs in
    let sv = met-waits R (mode_of c.args.promise w) w lo at c.in-Test.place c.in-Test.left c.in-Test.right c.in-Test.met c.in-Test.unmet c.in-Test.comparison q.left q.right q.met q.unmet c.in_ok-t-in-Test.t c.in_ok-t-in-Test.u c.infer_both.new.self pair q.met_stands in
    let mv = mode-stays c.args.promise w c.infer_both.new.self c.requires.names [] (ap (λ (G : Scope). G.names) pair.step.kept.scope ∙ sym (append-nil (entries w.names.now))) (listed-stay lo c.in-Test.right _ _ w c.infer_both.new.self c.args.promise.conditions pair.step) in
    let first = (subst (λ (rs : List (Option Row)). Checking (branch R (mode_of c.args.promise w) (scope_of c.infer_both.new.self) c.in-Test.place (stand_of c.infer_both.new.self) rs q.met) (suc c.in-Test.right) c.in-Test.met c.infer_both.new.self c.check_branch.new.self) c.rows.ensures (subst (λ (m : Mode). Checking (branch R m (scope_of c.infer_both.new.self) c.in-Test.place (stand_of c.infer_both.new.self) (list_of c.rows.result) q.met) (suc c.in-Test.right) c.in-Test.met c.infer_both.new.self c.check_branch.new.self) mv (c.in_ok-check_branch-in-Test.ensures.branches q.met_below R (suc c.in-Test.right) q.met hv sv))) in
    let hx = heads-stay (suc c.in-Test.right) c.in-Test.met _ _ c.infer_both.new.self c.check_branch.new.self R (met-step R (mode_of c.args.promise w) w lo at c.in-Test.place c.in-Test.left c.in-Test.right c.in-Test.met c.in-Test.unmet c.in-Test.comparison q.left q.right q.met q.unmet c.in_ok-t-in-Test.t c.in_ok-t-in-Test.u c.infer_both.new.self pair c.check_branch.new.self first) hv in let sx = unmet-waits R (mode_of c.args.promise w) w lo at c.in-Test.place c.in-Test.left c.in-Test.right c.in-Test.met c.in-Test.unmet c.in-Test.comparison q.left q.right q.met q.unmet c.in_ok-t-in-Test.t c.in_ok-t-in-Test.u c.infer_both.new.self pair c.check_branch.new.self first q.unmet_stands in
    let mx = mode-stays c.args.promise w c.check_branch.new.self c.requires.names [] (ap (λ (G : Scope). G.names) ((met-step R (mode_of c.args.promise w) w lo at c.in-Test.place c.in-Test.left c.in-Test.right c.in-Test.met c.in-Test.unmet c.in-Test.comparison q.left q.right q.met q.unmet c.in_ok-t-in-Test.t c.in_ok-t-in-Test.u c.infer_both.new.self pair c.check_branch.new.self first).kept.scope ∙ pair.step.kept.scope) ∙ sym (append-nil (entries w.names.now))) (listed-stay (suc c.in-Test.right) c.in-Test.met _ _ c.infer_both.new.self c.check_branch.new.self c.args.promise.conditions (met-step R (mode_of c.args.promise w) w lo at c.in-Test.place c.in-Test.left c.in-Test.right c.in-Test.met c.in-Test.unmet c.in-Test.comparison q.left q.right q.met q.unmet c.in_ok-t-in-Test.t c.in_ok-t-in-Test.u c.infer_both.new.self pair c.check_branch.new.self first) ∙ listed-stay lo c.in-Test.right _ _ w c.infer_both.new.self c.args.promise.conditions pair.step) in
    let second = (subst (λ (rs : List (Option Row)). Checked c.check_branch-in-Test.result (branch R m (scope_of c.check_branch.new.self) c.in-Test.place (stand_of c.check_branch.new.self) rs q.unmet) (suc c.in-Test.met) c.in-Test.unmet c.check_branch.new.self c.check_branch-in-Test.new.self) c.otherwise.ensures (subst (λ (m : Mode). Checked c.check_branch-in-Test.result (branch R m (scope_of c.check_branch.new.self) c.in-Test.place (stand_of c.check_branch.new.self) (list_of c.otherwise.result) q.unmet) (suc c.in-Test.met) c.in-Test.unmet c.check_branch.new.self c.check_branch-in-Test.new.self) mx (c.check_branch-in-Test.ensures.branches q.unmet_below R (suc c.in-Test.met) q.unmet hx sx))) in
    subst (λ x. Checked c.check_branch-in-Test.result (walk R (mode_of c.args.promise w) (scope_of w) (stand_of w) x) lo at w c.check_branch-in-Test.new.self) (sym q.is)
    (test-ended R (take c.args.promise.names (entries w.names.now)) (listed_in (tables_of w) c.args.promise.conditions) w lo at c.in-Test.place c.in-Test.left c.in-Test.right c.in-Test.met c.in-Test.unmet c.in-Test.comparison q.left q.right q.met q.unmet c.in_ok-t-in-Test.t c.in_ok-t-in-Test.u c.infer_both.new.self pair c.check_branch.new.self first c.check_branch-in-Test.result c.check_branch-in-Test.new.self second n q.left_below q.right_below q.met_below q.unmet_below)

pub check-returns-in_ok-check_branch-in-Test-clause-kept : goal.check-returns-in_ok-check_branch-in-Test-clause-kept
check-returns-in_ok-check_branch-in-Test-clause-kept t c =
    let w = c.args.self.now in
    if-kept c.check_branch-in-Test.result w c.check_branch.new.self c.check_branch-in-Test.new.self (kept-then w c.infer_both.new.self c.check_branch.new.self c.in_ok-t-in-Test.ensures.kept c.in_ok-check_branch-in-Test.ensures.kept) c.check_branch-in-Test.ensures.kept

pub infer-returns-in_err-t-in-Put-clause-infers : goal.infer-returns-in_err-t-in-Put-clause-infers
infer-returns-in_err-t-in-Put-clause-infers t c = λ h R lo e hs st.
    let w = c.args.self.now in let at = c.args.at in
    let n = here (tables_of w).nodes.entries at c.node.result c.in_ok-node.node _ c.node.ensures c.in_ok-node.ensures.ok_part c.in-Put.is in
    let q = expr_as (tables_by (tables_of w)) lo at e _ st n in
    inferred-not c.in_err-t-in-Put.field-0.0 c.from_residual-in_err-t-in-Put.result _ lo at w _ c.from_residual-in_err-t-in-Put.ensures.1 (subst (λ x. first_fault (walk R infer (scope_of w) (stand_of w) x).notes ≡ Some c.in_err-t-in-Put.field-0.0) (sym q.is)
    (put-not-parts R infer w lo at c.in-Put.work c.in-Put.place c.in-Put.number c.in-Put.list c.in-Put.index c.in-Put.value c.in-Put.rest q.index q.given q.rest c.in_err-t-in-Put.field-0.0 (c.in_err-t-in-Put.ensures.pairs q.index_below q.given_below R lo q.index q.given hs q.index_stands q.given_stands)))

pub infer-returns-in_err-touch-in-Put-clause-infers : goal.infer-returns-in_err-touch-in-Put-clause-infers
infer-returns-in_err-touch-in-Put-clause-infers t c = λ h R lo e hs st.
    let w = c.args.self.now in let at = c.args.at in
    let n = here (tables_of w).nodes.entries at c.node.result c.in_ok-node.node _ c.node.ensures c.in_ok-node.ensures.ok_part c.in-Put.is in
    let q = expr_as (tables_by (tables_of w)) lo at e _ st n in
    let low = low_end (tables_by (tables_of w)) lo at e st in
    let pair = c.in_ok-t-in-Put.ensures.pairs q.index_below q.given_below R lo q.index q.given hs q.index_stands q.given_stands in
    inferred-not c.in_err-touch-in-Put.field-0.0 c.from_residual-in_err-touch-in-Put.result _ lo at w _ c.from_residual-in_err-touch-in-Put.ensures.1 (subst (λ x. first_fault (walk R infer (scope_of w) (stand_of w) x).notes ≡ Some c.in_err-touch-in-Put.field-0.0) (sym q.is)
    (put-not-checks R infer w lo at c.in-Put.work c.in-Put.place c.in-Put.number c.in-Put.list c.in-Put.index c.in-Put.value c.in-Put.rest q.index q.given q.rest c.in_ok-t-in-Put.t c.in_ok-t-in-Put.field-0-1 c.infer_both-in-Put.new.self n q.index_below q.given_below low pair c.in_err-touch-in-Put.field-0.0 c.in_err-touch-in-Put.ensures.stepped))

pub infer-returns-in_ok-touch-in-Put-clause-infers : goal.infer-returns-in_ok-touch-in-Put-clause-infers
infer-returns-in_ok-touch-in-Put-clause-infers t c = λ h R lo e hs st.
    let w = c.args.self.now in let at = c.args.at in
    let n = here (tables_of w).nodes.entries at c.node.result c.in_ok-node.node _ c.node.ensures c.in_ok-node.ensures.ok_part c.in-Put.is in
    let q = expr_as (tables_by (tables_of w)) lo at e _ st n in
    let low = low_end (tables_by (tables_of w)) lo at e st in
    let pair = c.in_ok-t-in-Put.ensures.pairs q.index_below q.given_below R lo q.index q.given hs q.index_stands q.given_stands in
    let j = c.in_ok-touch-in-Put.ensures.stepped in
    let hy = heads-stay at at _ _ c.infer_both-in-Put.new.self c.touch-in-Put.new.self R j.step (heads-stay lo c.in-Put.value _ _ w c.infer_both-in-Put.new.self R pair.step hs) in
    let sy = put-rest R infer w lo at c.in-Put.work c.in-Put.place c.in-Put.number c.in-Put.list c.in-Put.index c.in-Put.value c.in-Put.rest q.index q.given q.rest c.in_ok-t-in-Put.t c.in_ok-t-in-Put.field-0-1 c.infer_both-in-Put.new.self n q.index_below q.given_below low pair c.touch-in-Put.new.self j q.rest_below (suc c.in-Put.value) (stays lo c.in-Put.value _ _ w c.infer_both-in-Put.new.self pair.step (suc c.in-Put.value) c.in-Put.rest q.rest (inr (omega arith)) q.rest_stands) in
    subst (λ x. Inferred c.infer-in-Put.result (walk R infer (scope_of w) (stand_of w) x) lo at w c.infer-in-Put.new.self) (sym q.is)
    (put-inferred R infer w lo at c.in-Put.work c.in-Put.place c.in-Put.number c.in-Put.list c.in-Put.index c.in-Put.value c.in-Put.rest q.index q.given q.rest c.in_ok-t-in-Put.t c.in_ok-t-in-Put.field-0-1 c.infer_both-in-Put.new.self n q.index_below q.given_below low pair c.touch-in-Put.new.self j c.infer-in-Put.result c.infer-in-Put.new.self q.rest_below (c.infer-in-Put.ensures.infers q.rest_below R (suc c.in-Put.value) q.rest hy sy))

pub infer-returns-in_ok-touch-in-Put-clause-kept : goal.infer-returns-in_ok-touch-in-Put-clause-kept
infer-returns-in_ok-touch-in-Put-clause-kept t c =
    let w = c.args.self.now in
    if-kept c.infer-in-Put.result w c.touch-in-Put.new.self c.infer-in-Put.new.self (kept-then w c.infer_both-in-Put.new.self c.touch-in-Put.new.self c.in_ok-t-in-Put.ensures.kept c.in_ok-touch-in-Put.ensures.kept) c.infer-in-Put.ensures.kept

pub check-returns-in_err-t-in-Put-clause-checks : goal.check-returns-in_err-t-in-Put-clause-checks
check-returns-in_err-t-in-Put-clause-checks t c = λ h R lo e hs st.
    let w = c.args.self.now in let at = c.args.at in
    let n = here (tables_of w).nodes.entries at c.node.result c.in_ok-node.node _ c.node.ensures c.in_ok-node.ensures.ok_part c.in-Put.is in
    let q = expr_as (tables_by (tables_of w)) lo at e _ st n in
    let m = mode_of c.args.promise w in
    checked-not c.in_err-t-in-Put.field-0.0 c.from_residual-in_err-t-in-Put.result _ lo at w _ c.from_residual-in_err-t-in-Put.ensures.1 (subst (λ x. first_fault (walk R (mode_of c.args.promise w) (scope_of w) (stand_of w) x).notes ≡ Some c.in_err-t-in-Put.field-0.0) (sym q.is)
    (put-not-parts R (mode_of c.args.promise w) w lo at c.in-Put.work c.in-Put.place c.in-Put.number c.in-Put.list c.in-Put.index c.in-Put.value c.in-Put.rest q.index q.given q.rest c.in_err-t-in-Put.field-0.0 (c.in_err-t-in-Put.ensures.pairs q.index_below q.given_below R lo q.index q.given hs q.index_stands q.given_stands)))

pub check-returns-in_err-touch-in-Put-clause-checks : goal.check-returns-in_err-touch-in-Put-clause-checks
check-returns-in_err-touch-in-Put-clause-checks t c = λ h R lo e hs st.
    let w = c.args.self.now in let at = c.args.at in
    let n = here (tables_of w).nodes.entries at c.node.result c.in_ok-node.node _ c.node.ensures c.in_ok-node.ensures.ok_part c.in-Put.is in
    let q = expr_as (tables_by (tables_of w)) lo at e _ st n in
    let m = mode_of c.args.promise w in
    let low = low_end (tables_by (tables_of w)) lo at e st in
    let pair = c.in_ok-t-in-Put.ensures.pairs q.index_below q.given_below R lo q.index q.given hs q.index_stands q.given_stands in
    checked-not c.in_err-touch-in-Put.field-0.0 c.from_residual-in_err-touch-in-Put.result _ lo at w _ c.from_residual-in_err-touch-in-Put.ensures.1 (subst (λ x. first_fault (walk R (mode_of c.args.promise w) (scope_of w) (stand_of w) x).notes ≡ Some c.in_err-touch-in-Put.field-0.0) (sym q.is)
    (put-not-checks R (mode_of c.args.promise w) w lo at c.in-Put.work c.in-Put.place c.in-Put.number c.in-Put.list c.in-Put.index c.in-Put.value c.in-Put.rest q.index q.given q.rest c.in_ok-t-in-Put.t c.in_ok-t-in-Put.field-0-1 c.infer_both-in-Put.new.self n q.index_below q.given_below low pair c.in_err-touch-in-Put.field-0.0 c.in_err-touch-in-Put.ensures.stepped))

pub check-returns-in_ok-touch-in-Put-clause-checks : goal.check-returns-in_ok-touch-in-Put-clause-checks
check-returns-in_ok-touch-in-Put-clause-checks t c = λ h R lo e hs st.
    let w = c.args.self.now in let at = c.args.at in
    let n = here (tables_of w).nodes.entries at c.node.result c.in_ok-node.node _ c.node.ensures c.in_ok-node.ensures.ok_part c.in-Put.is in
    let q = expr_as (tables_by (tables_of w)) lo at e _ st n in
    let m = mode_of c.args.promise w in
    let low = low_end (tables_by (tables_of w)) lo at e st in
    let pair = c.in_ok-t-in-Put.ensures.pairs q.index_below q.given_below R lo q.index q.given hs q.index_stands q.given_stands in
    let j = c.in_ok-touch-in-Put.ensures.stepped in
    let hy = heads-stay at at _ _ c.infer_both-in-Put.new.self c.touch.new.self R j.step (heads-stay lo c.in-Put.value _ _ w c.infer_both-in-Put.new.self R pair.step hs) in
    let sy = put-rest R (mode_of c.args.promise w) w lo at c.in-Put.work c.in-Put.place c.in-Put.number c.in-Put.list c.in-Put.index c.in-Put.value c.in-Put.rest q.index q.given q.rest c.in_ok-t-in-Put.t c.in_ok-t-in-Put.field-0-1 c.infer_both-in-Put.new.self n q.index_below q.given_below low pair c.touch.new.self j q.rest_below (suc c.in-Put.value) (stays lo c.in-Put.value _ _ w c.infer_both-in-Put.new.self pair.step (suc c.in-Put.value) c.in-Put.rest q.rest (inr (omega arith)) q.rest_stands) in
    let my = mode-stays c.args.promise w c.touch.new.self c.requires.names [] (ap (λ (G : Scope). G.names) (j.step.kept.scope ∙ pair.step.kept.scope) ∙ sym (append-nil (entries w.names.now))) (listed-stay at at _ _ c.infer_both-in-Put.new.self c.touch.new.self c.args.promise.conditions j.step ∙ listed-stay lo c.in-Put.value _ _ w c.infer_both-in-Put.new.self c.args.promise.conditions pair.step) in
    subst (λ x. Checked c.check-in-Put.result (walk R (mode_of c.args.promise w) (scope_of w) (stand_of w) x) lo at w c.check-in-Put.new.self) (sym q.is)
    (put-ended R (mode_of c.args.promise w) w lo at c.in-Put.work c.in-Put.place c.in-Put.number c.in-Put.list c.in-Put.index c.in-Put.value c.in-Put.rest q.index q.given q.rest c.in_ok-t-in-Put.t c.in_ok-t-in-Put.field-0-1 c.infer_both-in-Put.new.self n q.index_below q.given_below low pair c.touch.new.self j c.check-in-Put.result c.check-in-Put.new.self q.rest_below (subst (λ (m : Mode). Checked c.check-in-Put.result (walk R m (scope_of c.touch.new.self) (stand_of c.touch.new.self) q.rest) (suc c.in-Put.value) c.in-Put.rest c.touch.new.self c.check-in-Put.new.self) my (c.check-in-Put.ensures.checks q.rest_below R (suc c.in-Put.value) q.rest hy sy)))

pub check-returns-in_ok-touch-in-Put-clause-kept : goal.check-returns-in_ok-touch-in-Put-clause-kept
check-returns-in_ok-touch-in-Put-clause-kept t c =
    let w = c.args.self.now in
    if-kept c.check-in-Put.result w c.touch.new.self c.check-in-Put.new.self (kept-then w c.infer_both-in-Put.new.self c.touch.new.self c.in_ok-t-in-Put.ensures.kept c.in_ok-touch-in-Put.ensures.kept) c.check-in-Put.ensures.kept

pub infer-returns-in_err-check-in-Claim-clause-infers : goal.infer-returns-in_err-check-in-Claim-clause-infers
infer-returns-in_err-check-in-Claim-clause-infers t c = λ h R lo e hs st.
    let w = c.args.self.now in let at = c.args.at in
    let n = here (tables_of w).nodes.entries at c.node.result c.in_ok-node.node _ c.node.ensures c.in_ok-node.ensures.ok_part c.in-Claim.is in
    let q = expr_as (tables_by (tables_of w)) lo at e _ st n in
    let pm = mode-whole c.mark-names.result c.in-Claim.conditions w q.conditions c.mark-names.ensures q.listed.reads in
    inferred-not c.in_err-check-in-Claim.field-0.0 c.from_residual-in_err-check-in-Claim.result _ lo at w _ c.from_residual-in_err-check-in-Claim.ensures.1 (subst (λ x. first_fault (walk R infer (scope_of w) (stand_of w) x).notes ≡ Some c.in_err-check-in-Claim.field-0.0) (sym q.is)
    (claim-not R w lo at c.in-Claim.place c.in-Claim.claimed c.in-Claim.conditions q.claimed q.conditions c.in_err-check-in-Claim.field-0.0 (subst (λ (m : Mode). first_fault (walk R m (scope_of w) (stand_of w) q.claimed).notes ≡ Some c.in_err-check-in-Claim.field-0.0) pm (c.in_err-check-in-Claim.ensures.checks q.claimed_below R lo q.claimed hs q.claimed_stands))))

pub infer-returns-in_ok-check-in-Claim-clause-infers : goal.infer-returns-in_ok-check-in-Claim-clause-infers
infer-returns-in_ok-check-in-Claim-clause-infers t c = λ h R lo e hs st.
    let w = c.args.self.now in let at = c.args.at in
    let n = here (tables_of w).nodes.entries at c.node.result c.in_ok-node.node _ c.node.ensures c.in_ok-node.ensures.ok_part c.in-Claim.is in
    let q = expr_as (tables_by (tables_of w)) lo at e _ st n in
    let low = low_end (tables_by (tables_of w)) lo at e st in
    let pm = mode-whole c.mark-names.result c.in-Claim.conditions w q.conditions c.mark-names.ensures q.listed.reads in
    let j = subst (λ (m : Mode). Checking (walk R m (scope_of w) (stand_of w) q.claimed) lo c.in-Claim.claimed w c.check.new.self) pm (c.in_ok-check-in-Claim.ensures.checks q.claimed_below R lo q.claimed hs q.claimed_stands) in
    let b = fell c.mark-mark.result.facts c.mark-mark.result.next (length (facts_of w)) w.next c.check.new.self c.fall_back.new.self c.mark-mark.ensures.facts c.mark-mark.ensures.next c.fall_back.ensures in
    let d = subst (λ (ds : List Tree.Condition). Finds c.claimed.result (fresh_with c.in-Claim.place (scope_of w).names ds (stand_of c.fall_back.new.self) []) c.fall_back.new.self c.claimed.new.self) (ap (λ (x : Laid). listed_in (columns_of x) c.in-Claim.conditions) b.tables ∙ listed-stay lo c.in-Claim.claimed _ _ w c.check.new.self c.in-Claim.conditions j.step ∙ q.listed.reads)
    (subst (λ (G : Scope). Finds c.claimed.result (fresh_with c.in-Claim.place G.names (listed_in (tables_of c.fall_back.new.self) c.in-Claim.conditions) (stand_of c.fall_back.new.self) []) c.fall_back.new.self c.claimed.new.self) (b.scope ∙ j.step.kept.scope) c.claimed.ensures.finds) in
    subst (λ x. Inferred c.claimed.result (walk R infer (scope_of w) (stand_of w) x) lo at w c.claimed.new.self) (sym q.is)
    (claim-inferred R w lo at c.in-Claim.place c.in-Claim.claimed c.in-Claim.conditions q.claimed q.conditions c.claimed.result c.check.new.self c.fall_back.new.self c.claimed.new.self n q.claimed_below low q.listed j b d)

pub infer-returns-in_ok-check-in-Claim-clause-kept : goal.infer-returns-in_ok-check-in-Claim-clause-kept
infer-returns-in_ok-check-in-Claim-clause-kept t c =
    let w = c.args.self.now in
    let b = fell c.mark-mark.result.facts c.mark-mark.result.next (length (facts_of w)) w.next c.check.new.self c.fall_back.new.self c.mark-mark.ensures.facts c.mark-mark.ensures.next c.fall_back.ensures in
    if-kept c.claimed.result w c.fall_back.new.self c.claimed.new.self (fallen-kept w c.check.new.self c.fall_back.new.self b c.in_ok-check-in-Claim.ensures.kept) c.claimed.ensures.kept

pub infer-returns-in-Num-clause-infers : goal.infer-returns-in-Num-clause-infers
infer-returns-in-Num-clause-infers t c = λ h R lo e hs st.
    let w = c.args.self.now in let at = c.args.at in
    let n = here (tables_of w).nodes.entries at c.node.result c.in_ok-node.node _ c.node.ensures c.in_ok-node.ensures.ok_part c.in-Num.is in
    let q = expr_as (tables_by (tables_of w)) lo at e _ st n in
    subst (λ x. Inferred c.numeral.result (walk R infer (scope_of w) (stand_of w) x) lo at w c.numeral.new.self) (sym q.is)
    (num-inferred R w lo at c.in-Num.place c.in-Num.value c.numeral.result c.numeral.new.self n q.low c.numeral.ensures.finds)

pub infer-returns-in-Name-clause-infers : goal.infer-returns-in-Name-clause-infers
infer-returns-in-Name-clause-infers t c = λ h R lo e hs st.
    let w = c.args.self.now in let at = c.args.at in
    let n = here (tables_of w).nodes.entries at c.node.result c.in_ok-node.node _ c.node.ensures c.in_ok-node.ensures.ok_part c.in-Name.is in
    let q = expr_as (tables_by (tables_of w)) lo at e _ st n in
    subst (λ x. Inferring c.named.result (walk R infer (scope_of w) (stand_of w) x) lo at w w) (sym q.is)
    (name-inferred R w lo at c.in-Name.place c.in-Name.slot c.named.result c.requires.sure n q.low c.named.ensures.value)

pub infer_both-returns-in_err-t-clause-pairs : goal.infer_both-returns-in_err-t-clause-pairs
infer_both-returns-in_err-t-clause-pairs t c = λ ha hb R lo x y hs sx sy.
    let w = c.args.self.now in let a = c.args.left in let b = c.args.right in
    paired-not c.in_err-t.field-0.0 c.from_residual.result _ _ lo a b w _ c.from_residual.ensures.1 (fault-first (walk R infer (scope_of w) (stand_of w) x).notes _ c.in_err-t.field-0.0 (c.in_err-t.ensures.infers ha R lo x hs sx))

pub infer_both-returns-in_err-u-clause-pairs : goal.infer_both-returns-in_err-u-clause-pairs
infer_both-returns-in_err-u-clause-pairs t c = λ ha hb R lo x y hs sx sy.
    let w = c.args.self.now in let a = c.args.left in let b = c.args.right in
    let i = c.in_ok-t.ensures.infers ha R lo x hs sx in let hv = heads-stay lo a _ _ w c.infer.new.self R i.step hs in
    let sv = right-waits R x y lo a b w c.infer.new.self c.in_ok-t.t i sy in
    paired-not c.in_err-u.field-0.0 c.from_residual-in_err-u.result _ _ lo a b w _ c.from_residual-in_err-u.ensures.1 (both-not R x y lo a b w c.infer.new.self c.in_ok-t.t i c.in_err-u.field-0.0 (c.in_err-u.ensures.infers hb R (suc a) y hv sv))

pub infer_both-returns-clause-pairs : goal.infer_both-returns-clause-pairs
infer_both-returns-clause-pairs t c = λ ha hb R lo x y hs sx sy.
    let w = c.args.self.now in let a = c.args.left in let b = c.args.right in
    let i = c.in_ok-t.ensures.infers ha R lo x hs sx in let hv = heads-stay lo a _ _ w c.infer.new.self R i.step hs in
    let sv = right-waits R x y lo a b w c.infer.new.self c.in_ok-t.t i sy in
    let low = low_end (tables_by (tables_of w)) lo a x sx in let low' = low_end (tables_by (tables_of w)) (suc a) b y sy in
    both-step R x y lo a b w c.infer.new.self c.in_ok-t.t i c.in_ok-u.u c.infer-2.new.self (omega arith) (omega arith) (c.in_ok-u.ensures.infers hb R (suc a) y hv sv)

pub infer_branch-returns-in_err-assume-clause-branches : goal.infer_branch-returns-in_err-assume-clause-branches
infer_branch-returns-in_err-assume-clause-branches t c = λ ha R lo e hs st.
    let w = c.args.self.now in let at = c.args.at in let rows = list_of c.args.rows in
    checked-not c.in_err-assume.field-0.0 c.from_residual.result _ lo at w _ c.from_residual.ensures.1 (fault-first (assume c.args.place (facts_of w) rows).notes _ c.in_err-assume.field-0.0 c.in_err-assume.ensures.stepped)

pub infer_branch-returns-in_err-infer-clause-branches : goal.infer_branch-returns-in_err-infer-clause-branches
infer_branch-returns-in_err-infer-clause-branches t c = λ ha R lo e hs st.
    let w = c.args.self.now in let at = c.args.at in let rows = list_of c.args.rows in
    let a = c.in_ok-assume.ensures.stepped in let s = a (suc at) (suc at) in
    let hv = heads-stay (suc at) (suc at) _ _ w c.assume.new.self R s hs in let sv = stays (suc at) (suc at) _ _ w c.assume.new.self s lo at e (inl (omega arith)) st in
    checked-not c.in_err-infer.field-0.0 c.from_residual-in_err-infer.result _ lo at w _ c.from_residual-in_err-infer.ensures.1 (branch-not R infer c.args.place rows e lo at w c.assume.new.self c.infer.new.self c.infer.new.self a c.in_err-infer.field-0.0 (c.in_err-infer.ensures.infers ha R lo e hv sv))

pub infer_branch-returns-clause-branches : goal.infer_branch-returns-clause-branches
infer_branch-returns-clause-branches t c = λ ha R lo e hs st.
    let w = c.args.self.now in let at = c.args.at in let rows = list_of c.args.rows in
    let a = c.in_ok-assume.ensures.stepped in let s = a (suc at) (suc at) in
    let hv = heads-stay (suc at) (suc at) _ _ w c.assume.new.self R s hs in let sv = stays (suc at) (suc at) _ _ w c.assume.new.self s lo at e (inl (omega arith)) st in
    let b = fell c.mark-mark.result.facts c.mark-mark.result.next (length (facts_of w)) w.next c.infer.new.self c.fall_back.new.self c.mark-mark.ensures.facts c.mark-mark.ensures.next c.fall_back.ensures in
    branch-step R infer c.args.place rows e lo at w c.assume.new.self c.infer.new.self c.fall_back.new.self a (as-checking c.in_ok-infer.field-0 _ lo at c.assume.new.self c.infer.new.self (c.in_ok-infer.ensures.infers ha R lo e hv sv)) b

pub infer_branch-returns-clause-kept : goal.infer_branch-returns-clause-kept
infer_branch-returns-clause-kept t c =
    let w = c.args.self.now in
    let b = fell c.mark-mark.result.facts c.mark-mark.result.next (length (facts_of w)) w.next c.infer.new.self c.fall_back.new.self c.mark-mark.ensures.facts c.mark-mark.ensures.next c.fall_back.ensures in
    fallen-kept w c.infer.new.self c.fall_back.new.self b (kept-then w c.assume.new.self c.infer.new.self c.in_ok-assume.ensures.kept c.in_ok-infer.ensures.kept)

pub check_branch-returns-in_err-assume-clause-branches : goal.check_branch-returns-in_err-assume-clause-branches
check_branch-returns-in_err-assume-clause-branches t c = λ ha R lo e hs st.
    let w = c.args.self.now in let at = c.args.at in let rows = list_of c.args.rows in
    checked-not c.in_err-assume.field-0.0 c.from_residual.result _ lo at w _ c.from_residual.ensures.1 (fault-first (assume c.args.place (facts_of w) rows).notes _ c.in_err-assume.field-0.0 c.in_err-assume.ensures.stepped)

pub check_branch-returns-in_err-check-clause-branches : goal.check_branch-returns-in_err-check-clause-branches
check_branch-returns-in_err-check-clause-branches t c = λ ha R lo e hs st.
    let w = c.args.self.now in let at = c.args.at in let rows = list_of c.args.rows in
    let a = c.in_ok-assume.ensures.stepped in let s = a (suc at) (suc at) in
    let hv = heads-stay (suc at) (suc at) _ _ w c.assume.new.self R s hs in let sv = stays (suc at) (suc at) _ _ w c.assume.new.self s lo at e (inl (omega arith)) st in
    let mv = mode-stays c.args.promise w c.assume.new.self c.requires.names [] (ap (λ (G : Scope). G.names) s.kept.scope ∙ sym (append-nil (entries w.names.now))) (listed-stay (suc at) (suc at) _ _ w c.assume.new.self c.args.promise.conditions s) in
    checked-not c.in_err-check.field-0.0 c.from_residual-in_err-check.result _ lo at w _ c.from_residual-in_err-check.ensures.1 (branch-not R (mode_of c.args.promise w) c.args.place rows e lo at w c.assume.new.self c.check.new.self c.check.new.self a c.in_err-check.field-0.0 (subst (λ (m : Mode). first_fault (walk R m (scope_of c.assume.new.self) (stand_of c.assume.new.self) e).notes ≡ Some c.in_err-check.field-0.0) mv (c.in_err-check.ensures.checks ha R lo e hv sv)))

pub check_branch-returns-clause-branches : goal.check_branch-returns-clause-branches
check_branch-returns-clause-branches t c = λ ha R lo e hs st.
    let w = c.args.self.now in let at = c.args.at in let rows = list_of c.args.rows in
    let a = c.in_ok-assume.ensures.stepped in let s = a (suc at) (suc at) in
    let hv = heads-stay (suc at) (suc at) _ _ w c.assume.new.self R s hs in let sv = stays (suc at) (suc at) _ _ w c.assume.new.self s lo at e (inl (omega arith)) st in
    let mv = mode-stays c.args.promise w c.assume.new.self c.requires.names [] (ap (λ (G : Scope). G.names) s.kept.scope ∙ sym (append-nil (entries w.names.now))) (listed-stay (suc at) (suc at) _ _ w c.assume.new.self c.args.promise.conditions s) in
    let b = fell c.mark-mark.result.facts c.mark-mark.result.next (length (facts_of w)) w.next c.check.new.self c.fall_back.new.self c.mark-mark.ensures.facts c.mark-mark.ensures.next c.fall_back.ensures in
    branch-step R (mode_of c.args.promise w) c.args.place rows e lo at w c.assume.new.self c.check.new.self c.fall_back.new.self a (subst (λ (m : Mode). Checking (walk R m (scope_of c.assume.new.self) (stand_of c.assume.new.self) e) lo at c.assume.new.self c.check.new.self) mv (c.in_ok-check.ensures.checks ha R lo e hv sv)) b

pub check_branch-returns-clause-kept : goal.check_branch-returns-clause-kept
check_branch-returns-clause-kept t c =
    let w = c.args.self.now in
    let b = fell c.mark-mark.result.facts c.mark-mark.result.next (length (facts_of w)) w.next c.check.new.self c.fall_back.new.self c.mark-mark.ensures.facts c.mark-mark.ensures.next c.fall_back.ensures in
    fallen-kept w c.check.new.self c.fall_back.new.self b (kept-then w c.assume.new.self c.check.new.self c.in_ok-assume.ensures.kept c.in_ok-check.ensures.kept)

pub check-returns-in_err-term-in-Num-clause-checks : goal.check-returns-in_err-term-in-Num-clause-checks
check-returns-in_err-term-in-Num-clause-checks t c = λ h R lo e hs st.
    let w = c.args.self.now in let at = c.args.at in
    let n = sym c.node.ensures ∙ c.in_ok-node.ensures.ok_part in
    let p = plain_node (tables_by (tables_of w)) lo at e c.in-Num.place st c.in_ok-node.node n c.in-Num.is in
    checked-not c.in_err-term-in-Num.field-0.0 c.from_residual-in_err-term-in-Num.result _ lo at w _ c.from_residual-in_err-term-in-Num.ensures.1 (last-not R w lo at (take c.args.promise.names (entries w.names.now)) (listed_in (tables_of w) c.args.promise.conditions) e p.plain c.in_err-term-in-Num.field-0.0 (c.in_err-term-in-Num.ensures.infers h R lo e hs st))

pub check-returns-in_ok-term-in-Num-clause-checks : goal.check-returns-in_ok-term-in-Num-clause-checks
check-returns-in_ok-term-in-Num-clause-checks t c = λ h R lo e hs st.
    let w = c.args.self.now in let at = c.args.at in
    let n = sym c.node.ensures ∙ c.in_ok-node.ensures.ok_part in
    let p = plain_node (tables_by (tables_of w)) lo at e c.in-Num.place st c.in_ok-node.node n c.in-Num.is in
    let i = c.in_ok-term-in-Num.ensures.infers h R lo e hs st in
    let cs = listed-stay lo at _ _ w c.infer-in-Num.new.self c.args.promise.conditions i.step in
    let o = subst (λ (k : ℕ). Owed c.owe_promise.result (owe_all k (facts_of c.infer-in-Num.new.self) (owed_of c.infer-in-Num.new.self.debts.now.tables.now) (conditions_rows (take c.args.promise.names (entries w.names.now)) c.in_ok-term-in-Num.term (listed_in (tables_of w) c.args.promise.conditions))) c.infer-in-Num.new.self c.owe_promise.new.self) p.place
    (subst (λ (ds : List Tree.Condition). Owed c.owe_promise.result (owe_all c.in-Num.place (facts_of c.infer-in-Num.new.self) (owed_of c.infer-in-Num.new.self.debts.now.tables.now) (conditions_rows (take c.args.promise.names (entries w.names.now)) c.in_ok-term-in-Num.term ds)) c.infer-in-Num.new.self c.owe_promise.new.self) cs
    (subst (λ (G : Scope). Owed c.owe_promise.result (owe_all c.in-Num.place (facts_of c.infer-in-Num.new.self) (owed_of c.infer-in-Num.new.self.debts.now.tables.now) (conditions_rows (take c.args.promise.names G.names) c.in_ok-term-in-Num.term (listed_in (tables_of c.infer-in-Num.new.self) c.args.promise.conditions))) c.infer-in-Num.new.self c.owe_promise.new.self) i.step.kept.scope c.owe_promise.ensures.stepped)) in
    last-checked R w lo at (take c.args.promise.names (entries w.names.now)) (listed_in (tables_of w) c.args.promise.conditions) e p.plain c.owe_promise.result c.in_ok-term-in-Num.term c.infer-in-Num.new.self c.owe_promise.new.self i o

pub arguments-returns-in_err-term-in-Value-clause-gives : goal.arguments-returns-in_err-term-in-Value-clause-gives
arguments-returns-in_err-term-in-Value-clause-gives t c =
    λ below R lo es heads stand space.
    let w = c.args.self.now in let a = c.in-Value.argument in let b = c.in-Value.rest in let e = c.in_err-term-in-Value in
    let node = sym c.node.ensures ∙ c.in_ok-node.ensures.ok_part ∙ ap Some c.in-Value.is in
    let s = args_as (tables_by (columns_of w.debts.now.tables.now)) lo c.args.at es (Value a b) stand node in
    given-not e.field-0.0 c.from_residual-in_err-term-in-Value.result _ lo c.args.at c.args.given.now c.args.given.now w c.infer.new.self c.from_residual-in_err-term-in-Value.ensures.1
    (value-refused R lo c.args.at b w es a node s e.field-0.0 (e.ensures.infers s.argument_below R (suc b) s.argument heads s.argument_stands))

pub arguments-returns-in_err-map_err-in-Value-clause-gives : goal.arguments-returns-in_err-map_err-in-Value-clause-gives
arguments-returns-in_err-map_err-in-Value-clause-gives t c =
    λ below R lo es heads stand space.
    let w = c.args.self.now in let a = c.in-Value.argument in let b = c.in-Value.rest in let before = c.args.given.now in
    let node = sym c.node.ensures ∙ c.in_ok-node.ensures.ok_part ∙ ap Some c.in-Value.is in
    let s = args_as (tables_by (columns_of w.debts.now.tables.now)) lo c.args.at es (Value a b) stand node in
    absurd {A = Given c.from_residual-in_err-map_err-in-Value.result (walks R (scope_of w) (stand_of w) es) lo c.args.at before c.push.new.self w c.infer.new.self} (not-full (is_ok c.push.result) (length (entries before)) (room before) (length (shape s.rest)) (sym c.in_err-map_err-in-Value.ensures.variant) c.push.ensures.value
    (value-room R lo c.args.at b w es a node s (length (entries before)) (room before) space))

pub arguments-returns-in_err-map_err-in-Lent-clause-gives : goal.arguments-returns-in_err-map_err-in-Lent-clause-gives
arguments-returns-in_err-map_err-in-Lent-clause-gives t c =
    λ below R lo es heads stand space.
    let w = c.args.self.now in let l = c.in-Lent.list in let b = c.in-Lent.rest in let before = c.args.given.now in
    let node = sym c.node.ensures ∙ c.in_ok-node.ensures.ok_part ∙ ap Some c.in-Lent.is in
    let s = args_as (tables_by (columns_of w.debts.now.tables.now)) lo c.args.at es (Lent l b) stand node in
    absurd {A = Given c.from_residual-in_err-map_err-in-Lent.result (walks R (scope_of w) (stand_of w) es) lo c.args.at before c.push-in-Lent.new.self w w} (not-full (is_ok c.push-in-Lent.result) (length (entries before)) (room before) (length (shape s.rest)) (sym c.in_err-map_err-in-Lent.ensures.variant) c.push-in-Lent.ensures.value
    (lent-room R lo c.args.at b w es l node s (length (entries before)) (room before) space))

pub arguments-returns-in-End-clause-gives : goal.arguments-returns-in-End-clause-gives
arguments-returns-in-End-clause-gives t c =
    λ below R lo es heads stand space.
    let w = c.args.self.now in
    let node = sym c.node.ensures ∙ c.in_ok-node.ensures.ok_part ∙ ap Some c.in-End.is in
    none_given R lo c.args.at 0 w es (args_as (tables_by (columns_of w.debts.now.tables.now)) lo c.args.at es End stand node) c.args.given.now c.requires.sure node

pub arguments-returns-in_ok-map_err-in-Value-clause-gives : goal.arguments-returns-in_ok-map_err-in-Value-clause-gives
arguments-returns-in_ok-map_err-in-Value-clause-gives t c =
    λ below R lo es heads stand space.
    let w = c.args.self.now in let v = c.infer.new.self in let a = c.in-Value.argument in let b = c.in-Value.rest in let before = c.args.given.now in let middle = c.push.new.self in let term = c.in_ok-term-in-Value.term in
    let node = sym c.node.ensures ∙ c.in_ok-node.ensures.ok_part ∙ ap Some c.in-Value.is in
    let s = args_as (tables_by (columns_of w.debts.now.tables.now)) lo c.args.at es (Value a b) stand node in
    let g = c.in_ok-term-in-Value.ensures.infers s.argument_below R (suc b) s.argument heads s.argument_stands in
    let put = pushed (is_ok c.push.result) (entries middle) (entries before) term (sym c.in_ok-map_err-in-Value.ensures.variant) c.push.ensures.held in
    value-given R lo c.args.at b w es a node s v term g before middle c.arguments.new.given c.arguments.new.self put c.arguments.result
    (c.arguments.ensures.gives s.rest_below R lo s.rest (heads-stay (suc b) a _ _ w v R g.step heads) (value-rest R lo c.args.at b w es a node s v term g)
    (room_left before middle term (length (shape s.rest)) put c.push.ensures.room (value-room R lo c.args.at b w es a node s (length (entries before)) (room before) space)))

pub arguments-returns-in_ok-map_err-in-Lent-clause-gives : goal.arguments-returns-in_ok-map_err-in-Lent-clause-gives
arguments-returns-in_ok-map_err-in-Lent-clause-gives t c =
    λ below R lo es heads stand space.
    let w = c.args.self.now in let l = c.in-Lent.list in let b = c.in-Lent.rest in let before = c.args.given.now in let middle = c.push-in-Lent.new.self in let term = c.length_of.result in
    let node = sym c.node.ensures ∙ c.in_ok-node.ensures.ok_part ∙ ap Some c.in-Lent.is in
    let s = args_as (tables_by (columns_of w.debts.now.tables.now)) lo c.args.at es (Lent l b) stand node in
    let put = pushed (is_ok c.push-in-Lent.result) (entries middle) (entries before) term (sym c.in_ok-map_err-in-Lent.ensures.variant) c.push-in-Lent.ensures.held in
    lent-given R lo c.args.at b w es l node s before middle c.arguments-in-Lent.new.given c.arguments-in-Lent.new.self (put ∙ ap (λ x. entries before ++ x ∷ []) c.length_of.ensures.value) c.arguments-in-Lent.result
    (c.arguments-in-Lent.ensures.gives s.rest_below R lo s.rest heads s.rest_stand
    (room_left before middle term (length (shape s.rest)) put c.push-in-Lent.ensures.room (lent-room R lo c.args.at b w es l node s (length (entries before)) (room before) space)))

pub infer_call-returns-in_err-callee-clause-infers : goal.infer_call-returns-in_err-callee-clause-infers
infer_call-returns-in_err-callee-clause-infers t c =
    λ R lo e heads stand.
    let a = c.args in let w = a.self.now in let f = c.in_err-callee in
    let s = expr_as (tables_by (columns_of w.debts.now.tables.now)) lo a.at e (Call a.place a.rule a.args) stand c.requires.node in
    let none = none-found c.callee.result w.debts.now.tables.now c.laid.result.now a.rule a.args c.laid.ensures c.callee.ensures f.ensures.ok_part in
    subst (λ (r : Result Term Refusal). Inferred r (walk R infer (scope_of w) (stand_of w) e) lo a.at w w) (sym (refused_as c.callee.result (Name a.place) f.field-0.0 c.from_residual.result c.from_residual.ensures.1 f.ensures.value f.ensures.ok_part))
    (call-unnamed R lo a.at a.place a.rule a.args w e c.requires.node s (not-called (columns_of w.debts.now.tables.now) R a.rule a.args lo s.args heads s.args_stand none))

pub infer_call-returns-in_err-arguments-clause-infers : goal.infer_call-returns-in_err-arguments-clause-infers
infer_call-returns-in_err-arguments-clause-infers t c =
    λ R lo e heads stand.
    let a = c.args in let w = a.self.now in let entry = c.in_ok-callee.callee in let before = c.over-given.result in let f = c.in_err-arguments in
    let s = expr_as (tables_by (columns_of w.debts.now.tables.now)) lo a.at e (Call a.place a.rule a.args) stand c.requires.node in
    let k = called (columns_of w.debts.now.tables.now) R a.rule a.args lo s.args heads s.args_stand entry (callee-found c.callee.result w.debts.now.tables.now c.laid.result.now a.rule a.args c.laid.ensures c.callee.ensures entry c.in_ok-callee.ensures.ok_part) in
    let r = c.over-given.ensures.room in
    let g = f.ensures.gives s.args_below R lo s.args heads s.args_stand (omega (arith, ap length c.over-given.ensures.empty, r, k.few)) in
    inferred-not f.field-0.0 c.from_residual-in_err-arguments.result _ lo a.at w c.arguments.new.self c.from_residual-in_err-arguments.ensures.1
    (call-ungiven R lo a.at a.place a.rule a.args w e c.requires.node s entry k f.field-0.0 g)

pub infer_call-returns-in_err-owe_needs-clause-infers : goal.infer_call-returns-in_err-owe_needs-clause-infers
infer_call-returns-in_err-owe_needs-clause-infers t c =
    λ R lo e heads stand.
    let a = c.args in let w = a.self.now in let entry = c.in_ok-callee.callee in let before = c.over-given.result in let f = c.in_err-owe_needs in
    let s = expr_as (tables_by (columns_of w.debts.now.tables.now)) lo a.at e (Call a.place a.rule a.args) stand c.requires.node in
    let k = called (columns_of w.debts.now.tables.now) R a.rule a.args lo s.args heads s.args_stand entry (callee-found c.callee.result w.debts.now.tables.now c.laid.result.now a.rule a.args c.laid.ensures c.callee.ensures entry c.in_ok-callee.ensures.ok_part) in
    let r = c.over-given.ensures.room in
    let g = c.in_ok-arguments.ensures.gives s.args_below R lo s.args heads s.args_stand (omega (arith, ap length c.over-given.ensures.empty, r, k.few)) in
    inferred-not f.field-0.0 c.from_residual-in_err-owe_needs.result _ lo a.at w c.owe_needs.new.self c.from_residual-in_err-owe_needs.ensures.1
    (call-unowed R lo a.at a.place a.rule a.args w e c.requires.node s entry k c.arguments.new.self before c.arguments.new.given c.over-given.ensures.empty g c.as_slice.result.now c.as_slice.ensures f.field-0.0 f.ensures.stepped)

pub infer_call-returns-clause-infers : goal.infer_call-returns-clause-infers
infer_call-returns-clause-infers t c =
    λ R lo e heads stand.
    let a = c.args in let w = a.self.now in let entry = c.in_ok-callee.callee in let before = c.over-given.result in
    let s = expr_as (tables_by (columns_of w.debts.now.tables.now)) lo a.at e (Call a.place a.rule a.args) stand c.requires.node in
    let k = called (columns_of w.debts.now.tables.now) R a.rule a.args lo s.args heads s.args_stand entry (callee-found c.callee.result w.debts.now.tables.now c.laid.result.now a.rule a.args c.laid.ensures c.callee.ensures entry c.in_ok-callee.ensures.ok_part) in
    let r = c.over-given.ensures.room in
    let g = c.in_ok-arguments.ensures.gives s.args_below R lo s.args heads s.args_stand (omega (arith, ap length c.over-given.ensures.empty, r, k.few)) in
    call-inferred R lo a.at a.place a.rule a.args w e c.requires.node s entry k c.arguments.new.self before c.arguments.new.given c.over-given.ensures.empty g c.as_slice.result.now c.as_slice.ensures c.owe_needs.new.self c.in_ok-owe_needs.ensures.stepped c.as_slice-2.result.now c.as_slice-2.ensures c.returned.result c.returned.new.self c.returned.ensures.finds

pub infer_call-returns-clause-kept : goal.infer_call-returns-clause-kept
infer_call-returns-clause-kept t c =
    let w = c.args.self.now in let v = c.arguments.new.self in let u = c.owe_needs.new.self in
    if-kept c.returned.result w u c.returned.new.self (kept-then w v u c.in_ok-arguments.ensures.kept c.in_ok-owe_needs.ensures.kept) c.returned.ensures.kept
