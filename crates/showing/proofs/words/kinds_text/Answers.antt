use Rattle.std.proofs.Common.{◌≤◌, ◌++◌, drop, string_bytes, sym, ap, ◌∙◌, subst, arith}
use Rattle.std.proofs.lemmas.List.{append-nil, drop_all}
use Rattle.letters.specs.declared.kind.Kind.TheVariants.{Name}
use Rattle.letters.specs.Every.{kinds}
use Rattle.showing.specs.Kinds.{among, listed}
use Rattle.showing.proofs.Listing.{all_kinds, count_yes, turn-yes, turn-no}
use Rattle.showing.proofs.words.kinds_text.Goals as goal
use Rattle.showing.proofs.words.kinds_text.Goals.{then-has+in_ok-push_kind, else-has}

pub overflow_sub-left : goal.overflow_sub-left
unfolding kinds
overflow_sub-left c =
    let e = count_yes (among c.args.kinds) kinds c.loop-kind.kind-index Name c.loop-kind-test.true (sym c.if-has.ensures) in
    omega arith

pub loop-kind-preserved : goal.loop-kind-preserved
unfolding kinds
loop-kind-preserved c = elim c.if-has.branch [
  | then-has+in_ok-push_kind w ↦
      let t = turn-yes (among c.args.kinds) kinds c.loop-kind.kind-index Name c.loop-kind-test.true c.loop-kind.left (string_bytes c.loop-kind.text) (string_bytes c.if-has.text) _
      (sym w.if-has.ensures) c.loop-kind.invariant.0 c.loop-kind.invariant.1 (ap string_bytes w.text-is ∙ w.in_ok-push_kind.ensures) in
      (w.left-is ∙ t.0, t.1)
  | else-has w ↦
      let t = turn-no (among c.args.kinds) kinds c.loop-kind.kind-index Name c.loop-kind-test.true c.loop-kind.left (string_bytes c.if-has.text) _
      (sym w.if-has.ensures) c.loop-kind.invariant.0 (ap (λ s. string_bytes s ++ listed (among c.args.kinds) (drop c.loop-kind.kind-index kinds)) w.text-is ∙ c.loop-kind.invariant.1) in
      (w.left-is ∙ t.0, t.1)
]

pub returns : goal.returns
unfolding listed
returns c =
    let s = ap (listed (among c.args.kinds)) (drop_all c.loop-kind.kind-index kinds (subst (λ n. n ≤ c.loop-kind.kind-index) (sym all_kinds) c.loop-kind-test.false)) in
    sym (append-nil (string_bytes c.loop-kind.text)) ∙ ap (λ t. string_bytes c.loop-kind.text ++ t) (sym s) ∙ c.loop-kind.invariant.1
