-- Each return is one way through the tree: what was looked at before it, call by call.
use Rattle.std.specs.Prelude.{is_ok}
use Rattle.std.proofs.Common.{◌≡◌, ℕ, ◌<◌, List, [], length, drop, is_some, Some, None, sym, refl, ap, ◌∙◌, ap₂, inl, inr, arith}
use Rattle.letters.specs.declared.token.Token.{Token}
use Rattle.grammar.specs.Raw.{none}
use Rattle.grammar.specs.Stretches.{conditions_at}
use Rattle.grammar.specs.declared.node.Node.{Node}
use Rattle.grammar.specs.Trees.{look_of, grown, part_in, raw_at, args_at}
use Rattle.pile.specs.Entries.{entries, room}
use Rattle.naming.specs.Calls.{arg_fault, called}
use Rattle.naming.specs.Faults.{found, fresh, expr_faults, args_faults, condition_faults, call_faults, params_of, count_args, length_at, bare_list, place_of}
use Rattle.naming.specs.Least.{least}
use Rattle.naming.specs.Reaches.{Went, tokens_of, scope_of, sheet_of}
use Rattle.naming.specs.Scopes.{slot_in, naming}
use Rattle.naming.specs.Scopes as Scopes
use Rattle.naming.specs.Sources.{source_of}
use Rattle.naming.specs.Stretching.{left}
use Rattle.naming.specs.Walks.{expr_at, arguments_at}
use Rattle.naming.proofs.Grown.{args_more, args_none, count-more, count_none}
use Rattle.naming.proofs.Scoping.{pushed, fresh_in}
use Rattle.naming.proofs.Walking.{still, same-faults, both, expr-at, under, arg-went, args_at-law, length_from, drop-next}
use Rattle.naming.proofs.written.Written.+args_fault_expr_fault.Goals as goal

pub args_fault-returns : goal.args_fault-returns
unfolding args_faults
args_fault-returns t c =
    let w = c.args.self.now in let s = source_of w in let ls = c.args.lists.now in let k = c.in_ok-part.part in let ps = left c.args.params.now in
    let e = c.in_ok-part.ensures.read in
    let n = count_args (args_at s c.args.at w.nodes.now k.before) in
    let x = raw_at s c.args.at w.nodes.now k.last in record {
      went = args_at-law w ls ps c.args.top c.args.at _ (args_more s c.args.top w.nodes.now c.args.at k e)
          (both (arguments_at w ls ps c.args.at k.before) _ c.earlier.ensures c.args_fault-before.ensures.went
          (arg-went (length_at ps n) (bare_list w.text.now (tokens_of w ls) x) (place_of x) (expr_at w ls c.args.at k.last)
          (c.arg_fault-fault.ensures ∙ ap (λ b. arg_fault b (is_some (bare_list w.text.now (tokens_of w ls) x)) (place_of x) c.expr_fault-inside.result) (c.wants_list.ensures.list ∙ ap is_some (length_from _ ps n c.args_fault-before.ensures.left)))
          c.expr_fault-inside.ensures));
      left = drop-next _ _ ps n c.args_fault-before.ensures.left c.wants_list.ensures.left ∙ ap (λ m. drop m ps) (sym (count-more s c.args.top w.nodes.now c.args.at k e));
    }

pub args_fault-returns-in_err-part : goal.args_fault-returns-in_err-part
unfolding args_faults least
args_fault-returns-in_err-part t c =
    let w = c.args.self.now in let s = source_of w in let ps = left c.args.params.now in
    let e = c.in_err-part.ensures.read in record {
      went = args_at-law w c.args.lists.now ps c.args.top c.args.at none (args_none s c.args.top w.nodes.now c.args.at e) (still (λ ns. []) _ c.args.names.now c.from_residual.ensures);
      left = ap (λ m. drop m ps) (sym (count_none s c.args.top w.nodes.now c.args.at e));
    }

pub expr_fault-returns-in_err-node : goal.expr_fault-returns-in_err-node
unfolding expr_faults least
expr_fault-returns-in_err-node t c = expr-at c.args.self.now c.args.lists.now c.args.top c.args.at None c.in_err-node.ensures.read (still (λ ns. []) _ c.args.names.now c.from_residual.ensures)

pub expr_fault-returns-in-Blank : goal.expr_fault-returns-in-Blank
unfolding expr_faults least
expr_fault-returns-in-Blank t c =
    let w = c.args.self.now in let s = source_of w in let ls = c.args.lists.now in
    let quiet : (n : Node) → c.in_ok-node.field-0 ≡ n → ((ns : List ℕ) → expr_faults (sheet_of w) (scope_of w ns ls) (grown s (part_in s c.args.at w.nodes.now) (Some n)).expr ≡ []) → Went None (expr_at w ls c.args.top c.args.at) c.args.names.now c.args.names.now =
    λ n e f. expr-at w ls c.args.top c.args.at (Some n) (ap Some (sym e) ∙ c.in_ok-node.ensures.read) (same-faults _ (λ ns. []) None c.args.names.now c.args.names.now f (still (λ ns. []) None c.args.names.now refl)) in
    elim c.in-Blank.is [
      | inl e ↦ quiet _ e (λ ns. refl)
      | inr r ↦ elim r [
        | inl e ↦ quiet _ e.1 (λ ns. refl)
        | inr r ↦ elim r [
          | inl e ↦ quiet _ e (λ ns. refl)
          | inr r ↦ elim r [ inl e ↦ quiet _ e.2 (λ ns. refl) | inr e ↦ quiet _ e.6 (λ ns. refl) ]
        ]
      ]
    ]

pub expr_fault-returns-in-Name : goal.expr_fault-returns-in-Name
unfolding expr_faults
expr_fault-returns-in-Name t c =
    let w = c.args.self.now in
    expr-at w c.args.lists.now c.args.top c.args.at _ (ap Some (sym c.in-Name.is) ∙ c.in_ok-node.ensures.read)
    (still (λ ns. found (slot_in w.text.now (tokens_of w ns) (look_of (source_of w) c.in-Name.token)) (look_of (source_of w) c.in-Name.token)) c.unknown.result c.args.names.now
    (c.unknown.ensures ∙ ap (λ ns. least (found (slot_in w.text.now (tokens_of w ns) c.token.result) c.token.result)) c.as_slice.ensures ∙ ap (λ (k : Token). least (found (slot_in w.text.now (tokens_of w (entries c.args.names.now)) k) k)) c.token.ensures))

pub expr_fault-returns-in-Calc : goal.expr_fault-returns-in-Calc
unfolding expr_faults
expr_fault-returns-in-Calc t c =
    let w = c.args.self.now in let ls = c.args.lists.now in
    expr-at w ls c.args.top c.args.at _ (ap Some (sym c.in-Calc.is) ∙ c.in_ok-node.ensures.read)
    (both (expr_at w ls c.args.at c.in-Calc.left) (expr_at w ls c.args.at c.in-Calc.right) c.earlier.ensures c.expr_fault-left.ensures c.expr_fault-right.ensures)

pub expr_fault-returns-in-Read : goal.expr_fault-returns-in-Read
unfolding expr_faults
expr_fault-returns-in-Read t c =
    let w = c.args.self.now in let ls = c.args.lists.now in
    let F = λ (ns : List ℕ). found (slot_in w.text.now (tokens_of w ls) (look_of (source_of w) c.in-Read.name)) (look_of (source_of w) c.in-Read.name) in
    expr-at w ls c.args.top c.args.at _ (ap Some (sym c.in-Read.is) ∙ c.in_ok-node.ensures.read)
    (both F (expr_at w ls c.args.at c.in-Read.index) c.earlier-in-Read.ensures
    (still F c.unknown-list.result c.args.names.now (c.unknown-list.ensures ∙ ap (λ (k : Token). least (found (slot_in w.text.now (tokens_of w ls) k) k)) c.token-in-Read.ensures))
    c.expr_fault-index.ensures)

pub expr_fault-returns-in-Some : goal.expr_fault-returns-in-Some
unfolding expr_faults
expr_fault-returns-in-Some t c =
    let w = c.args.self.now in let s = source_of w in let ls = c.args.lists.now in let es = args_at s c.args.at w.nodes.now c.in-Call.args in
    let k = look_of s c.in-Call.name in
    expr-at w ls c.args.top c.args.at _ (ap Some (sym c.in-Call.is) ∙ c.in_ok-node.ensures.read)
    (same-faults _ (arguments_at w ls (left c.params.result) c.args.at c.in-Call.args) _ _ _
    (λ ns. ap (λ (k : Token). call_faults (params_of (sheet_of w) (Scopes.rule_in w.text.now (sheet_of w).rules k)) k (count_args es) (λ ps. args_faults (sheet_of w) (scope_of w ns ls) ps es)) (sym c.token-in-Call.ensures)
    ∙ c.in-Some.ensures (λ ps. args_faults (sheet_of w) (scope_of w ns ls) ps es)
    ∙ ap (λ ps. args_faults (sheet_of w) (scope_of w ns ls) ps es) (sym c.params.ensures.params))
    c.args_fault.ensures.went)

pub expr_fault-returns-in-None : goal.expr_fault-returns-in-None
unfolding expr_faults least
expr_fault-returns-in-None t c =
    let w = c.args.self.now in let s = source_of w in let ls = c.args.lists.now in let es = args_at s c.args.at w.nodes.now c.in-Call.args in
    expr-at w ls c.args.top c.args.at _ (ap Some (sym c.in-Call.is) ∙ c.in_ok-node.ensures.read)
    (same-faults _ (λ ns. called w None c.token-in-Call.result (λ ps. args_faults (sheet_of w) (scope_of w ns ls) ps es)) _ _ _
    (λ ns. ap (λ (k : Token). call_faults (params_of (sheet_of w) (Scopes.rule_in w.text.now (sheet_of w).rules k)) k (count_args es) (λ ps. args_faults (sheet_of w) (scope_of w ns ls) ps es)) (sym c.token-in-Call.ensures)
    ∙ c.in-None.ensures (λ ps. args_faults (sheet_of w) (scope_of w ns ls) ps es))
    (still _ (Some c.token-in-None.result.place) c.args.names.now (ap (λ (k : Token). Some k.place) (c.token-in-None.ensures ∙ sym c.token-in-Call.ensures))))

pub expr_fault-returns-in-Bind : goal.expr_fault-returns-in-Bind
unfolding expr_faults
expr_fault-returns-in-Bind t c =
    let w = c.args.self.now in let s = source_of w in let ls = c.args.lists.now in let n = c.in-Bind.name in
    let p = c.expr_fault-bound.new.names in
    let below = c.in_ok-node.ensures.below in
    let fits : length (entries p) < room p = omega (arith, c.requires, ap length c.expr_fault-bound.ensures.kept, c.expr_fault-bound.ensures.roomy) in
    let F = λ (ns : List ℕ). fresh w.text.now (scope_of w ns ls) (look_of s n) in
    expr-at w ls c.args.top c.args.at _ (ap Some (sym c.in-Bind.is) ∙ c.in_ok-node.ensures.read)
    (both _ (λ ns. expr_faults (sheet_of w) (naming (scope_of w ns ls) (look_of s n)) (raw_at s c.args.at w.nodes.now c.in-Bind.body)) c.earlier-in-Bind-2.ensures
    (both F (expr_at w ls c.args.at c.in-Bind.bound) c.earlier-in-Bind.ensures
    (still F c.declared-twice.result c.args.names.now (fresh_in w _ (entries c.args.names.now) ls ls _ (look_of s n) _ c.declared-twice.ensures c.as_slice-in-Bind.ensures refl c.token-in-Bind.ensures))
    c.expr_fault-bound.ensures)
    (under w ls n c.args.at c.in-Bind.body c.mark-mark.result c.mark-mark.ensures (pushed (entries p) _ n (is_ok c.push.result) (room p) c.push.ensures.value fits c.push.ensures.held) c.push.ensures.room c.expr_fault-body.ensures c.fall_back.ensures.held c.fall_back.ensures.room))

pub expr_fault-returns-in-Test : goal.expr_fault-returns-in-Test
unfolding expr_faults
expr_fault-returns-in-Test t c =
    let w = c.args.self.now in let ls = c.args.lists.now in let at = c.args.at in
    expr-at w ls c.args.top at _ (ap Some (sym c.in-Test.is) ∙ c.in_ok-node.ensures.read)
    (both _ _ c.earlier-in-Test-3.ensures
    (both (expr_at w ls at c.in-Test.left) (expr_at w ls at c.in-Test.right) c.earlier-in-Test.ensures c.expr_fault-left-in-Test.ensures c.expr_fault-right-in-Test.ensures)
    (both (expr_at w ls at c.in-Test.met) (expr_at w ls at c.in-Test.unmet) c.earlier-in-Test-2.ensures c.expr_fault-met.ensures c.expr_fault-unmet.ensures))

pub expr_fault-returns-in-Put : goal.expr_fault-returns-in-Put
unfolding expr_faults
expr_fault-returns-in-Put t c =
    let w = c.args.self.now in let ls = c.args.lists.now in let at = c.args.at in
    let F = λ (ns : List ℕ). found (slot_in w.text.now (tokens_of w ls) (look_of (source_of w) c.in-Put.name)) (look_of (source_of w) c.in-Put.name) in
    expr-at w ls c.args.top at _ (ap Some (sym c.in-Put.is) ∙ c.in_ok-node.ensures.read)
    (both _ _ c.earlier-in-Put-3.ensures
    (both F (expr_at w ls at c.in-Put.index) c.earlier-in-Put.ensures (still F c.unknown-list-in-Put.result c.args.names.now (c.unknown-list-in-Put.ensures ∙ ap (λ (k : Token). least (found (slot_in w.text.now (tokens_of w ls) k) k)) c.token-in-Put.ensures)) c.expr_fault-index-in-Put.ensures)
    (both (expr_at w ls at c.in-Put.value) (expr_at w ls at c.in-Put.rest) c.earlier-in-Put-2.ensures c.expr_fault-value.ensures c.expr_fault-rest.ensures))

pub expr_fault-returns-in-Claim : goal.expr_fault-returns-in-Claim
unfolding expr_faults
expr_fault-returns-in-Claim t c =
    let w = c.args.self.now in let s = source_of w in let ls = c.args.lists.now in let at = c.args.at in
    let F = λ (ns : List ℕ). condition_faults w.text.now (tokens_of w ns) (conditions_at (length w.tokens.now) (look_of s) c.in-Claim.conditions).value in
    expr-at w ls c.args.top at _ (ap Some (sym c.in-Claim.is) ∙ c.in_ok-node.ensures.read)
    (both (expr_at w ls at c.in-Claim.inner) F c.earlier-in-Claim.ensures c.expr_fault-claimed.ensures
    (still F c.conditions_fault-conditions.result c.expr_fault-claimed.new.names (c.conditions_fault-conditions.ensures ∙ ap₂ (λ ns cs. least (condition_faults w.text.now (tokens_of w ns) cs)) c.as_slice-in-Claim.ensures c.conditions.ensures.conditions)))

pub expr_fault-returns-in-Nest : goal.expr_fault-returns-in-Nest
unfolding expr_faults
expr_fault-returns-in-Nest t c =
    let w = c.args.self.now in let ls = c.args.lists.now in
    expr-at w ls c.args.top c.args.at _ (ap Some (sym c.in-Nest.is) ∙ c.in_ok-node.ensures.read) c.expr_fault.ensures
