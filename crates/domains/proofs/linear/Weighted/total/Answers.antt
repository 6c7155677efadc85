use Rattle.std.proofs.Common.{◌≡◌, length, take, drop, ◌++◌, get_or, pos, ◌*ℤ◌, sym, ap, ap₂, ◌∙◌, ⊎_elim, arith, w32, rules}
use Rattle.std.proofs.lemmas.Int.{ints, to_z-of_z}
use Rattle.std.proofs.lemmas.List.{length_push, take-append-drop, length-take-le}
use Rattle.ints.specs.Sums.{Near}
use Rattle.ints.proofs.Products.{times-near}
use Rattle.domains.specs.Linear.{entry, negated, total, numbers}
use Rattle.domains.proofs.Weighing.{entry-near, negated-near, weigh_turn, weigh_end, numbers_turn, numbers_at}
use Rattle.domains.proofs.linear.Weighted.total.Goals as goal

-- the product that a turn adds, and how near to 0 it lies
turn_is : (c : goal.After-times-sum) → c.times-sum.result ≡ pos c.in-Some.m.now *ℤ entry c.args.column c.in-Some.fact.now
turn_is c =
    c.times-sum.ensures ∙ ap (λ z. pos c.in-Some.m.now *ℤ z) (to_z-of_z w32 c.entry_of.result (search rules) ∙ c.entry_of.ensures)

turn_near : (c : goal.After-times-sum) → Near 4000000000000 c.times-sum.result
turn_near c =
    let m = numbers_turn _ _ c.in-Some.m.now (ap (λ ms. ms ++ drop (length c.args.self.question.facts.now) c.args.self.certificate.now) c.in-Some.ensures.steps.1) c.loop-fact.invariant.fit in
    let n = times-near c.in-Some.m.now (entry c.args.column c.in-Some.fact.now) 4000000 (entry-near c.args.column c.in-Some.fact.now) in
    let e = turn_is c in
    (omega (arith, ints), omega (arith, ints))

pub loop-fact-init : goal.loop-fact-init
loop-fact-init c =
    let a : c.into_iter-fact-iterator.result.a.rest.now ≡ c.args.self.question.facts.now = search rules in
    let b : c.into_iter-fact-iterator.result.b.rest.now ≡ take (length c.args.self.question.facts.now) c.args.self.certificate.now = search rules in
    let e = ap (λ ms. ms ++ drop (length c.args.self.question.facts.now) c.args.self.certificate.now) b ∙ take-append-drop (length c.args.self.question.facts.now) c.args.self.certificate.now in
    let few = c.args.self.few in
    let one_more = c.args.self.one_more in
    let n = ap length a in
    let m = ap length b ∙ length-take-le (length c.args.self.question.facts.now) c.args.self.certificate.now (omega arith) in
    let l = ap length e in
    let t = ap₂ (λ rs ms. total rs c.args.self.question.goal.now ms c.args.column) a e in
    record {
      total_is = omega (arith, ints);
      sum_near = (omega (arith, ints), omega (arith, ints));
      even = omega arith;
      few = omega arith;
      one_more = omega arith;
      fit = ap numbers e ∙ c.args.self.fit;
      same_last = ap₂ (λ ms i. get_or ms i 0) e n;
    }

pub overflow_add-sum : goal.overflow_add-sum
overflow_add-sum c =
    let n = turn_near c in
    let v = c.loop-fact.invariant in
    let s = c.in-Some.ensures.steps in
    let l = ap length s.0 in
    omega (arith, ints)

pub loop-fact-preserved : goal.loop-fact-preserved
loop-fact-preserved c =
    let n = turn_near c in
    let e = turn_is c in
    let v = c.loop-fact.invariant in
    let s = c.in-Some.ensures.steps in
    let l = ap length s.0 in
    let k = ap length s.1 in
    let t = ap (λ ms. ms ++ drop (length c.args.self.question.facts.now) c.args.self.certificate.now) s.1 in
    let w = weigh_turn (entry c.args.column) (negated c.args.column c.args.self.question.goal.now) _ _ _ _ c.in-Some.m.now c.in-Some.fact.now t s.0 in
    let y = length_push c.loop-fact.yielded (c.in-Some.fact, c.in-Some.m) in
    record {
      total_is = omega (arith, ints);
      sum_near = (omega (arith, ints), omega (arith, ints));
      even = omega arith;
      few = omega arith;
      one_more = let h = ap length t in omega arith;
      fit = (numbers_turn _ _ c.in-Some.m.now t v.fit).1;
      same_last = sym (ap₂ (λ x n. get_or x n 0) t l) ∙ v.same_last;
    }

-- no fact is left
none_left : (c : goal.After-times) → length c.loop-fact.fact-iterator.a.rest.now ≡ 0
none_left c = let o = c.loop-fact.invariant.even in ⊎_elim (λ e. e.1.0) (λ e. omega arith) c.in-None.ensures.steps

last-is : (c : goal.After-times) → c.times.result ≡ pos (get_or c.args.self.certificate.now (length c.args.self.question.facts.now) 0) *ℤ negated c.args.column c.args.self.question.goal.now
last-is c =
    c.times.ensures ∙ ap (λ z. pos (get_or c.args.self.certificate.now (length c.args.self.question.facts.now) 0) *ℤ z) (to_z-of_z w32 c.negated_entry.result (search rules) ∙ c.negated_entry.ensures)

pub overflow_add-result : goal.overflow_add-result
overflow_add-result c =
    let last = get_or c.args.self.certificate.now (length c.args.self.question.facts.now) 0 in
    let m = numbers_at c.args.self.certificate.now (length c.args.self.question.facts.now) c.args.self.fit in
    let n = times-near last (negated c.args.column c.args.self.question.goal.now) 4000001 (negated-near c.args.column c.args.self.question.goal.now) in
    let e = last-is c in
    let v = c.loop-fact.invariant in
    omega (arith, ints)

pub returns : goal.returns
returns c =
    let e = last-is c in
    let v = c.loop-fact.invariant in
    let f = overflow_add-result c in
    let z = none_left c in
    let more = drop (length c.args.self.question.facts.now) c.args.self.certificate.now in
    let o : length (c.loop-fact.fact-iterator.b.rest.now ++ more) ≡ 1 = omega arith in
    let w = weigh_end (entry c.args.column) (negated c.args.column c.args.self.question.goal.now) _ _ o z in
    let k = ap (λ i. pos (get_or (c.loop-fact.fact-iterator.b.rest.now ++ more) i 0) *ℤ negated c.args.column c.args.self.question.goal.now) z in
    let s = ap (λ m. pos m *ℤ negated c.args.column c.args.self.question.goal.now) v.same_last in
    omega (arith, ints)
