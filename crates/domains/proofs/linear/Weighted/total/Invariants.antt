use Rattle.std.proofs.Common.{◌≡◌, ◌+◌, ◌*◌, ◌≤◌, true, length, drop, get_or, ◌++◌, ◌+ℤ◌}
use Rattle.ints.specs.Sums.{Near}
use Rattle.domains.specs.Linear.{total, numbers}
use Rattle.domains.proofs.linear.Weighted.total.Given as goal

abbrev pub invariant-loop-fact : goal.invariant-loop-fact
invariant-loop-fact l =
    let rs = l.fact-iterator.a.rest.now in let ms = l.fact-iterator.b.rest.now ++ drop (length l.facts) l.self.certificate.now in
    record {
      total_is : total l.facts l.self.question.goal.now l.self.certificate.now l.column ≡ l.sum +ℤ total rs l.self.question.goal.now ms l.column;
      sum_near : Near (4000000000000 * length l.yielded) l.sum;
      even : length l.fact-iterator.b.rest.now ≡ length rs;
      few : length l.yielded + length rs ≤ 24;
      one_more : length ms ≡ length rs + 1;
      fit : numbers ms ≡ true;
      same_last : get_or ms (length rs) 0 ≡ get_or l.self.certificate.now (length l.facts) 0;
    }
