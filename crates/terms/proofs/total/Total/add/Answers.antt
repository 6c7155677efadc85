use Rattle.std.proofs.Common.{◌≡◌, ◌+◌, Bool, true, cond, ℤ, Some, None, sym, ap, ◌∙◌, w32}
use Rattle.std.proofs.lemmas.Int.{to_z-of_z}
use Rattle.language.specs.declared.term.Term.{Term}
use Rattle.language.specs.Terms.{plus, scaled}
use Rattle.terms.specs.Narrow.{wide_term}
use Rattle.terms.specs.Totals.{sum_of, takes}
use Rattle.terms.proofs.Adding.{room-coefs, modest-more}
use Rattle.terms.proofs.total.Total.add.Goals as goal
use Rattle.terms.proofs.total.Total.add.Goals.{After-plus_scaled}

pub plus_scaled-requires-clause-coefs : goal.plus_scaled-requires-clause-coefs
plus_scaled-requires-clause-coefs c = let s = c.args.self in room-coefs s.count s.sum s.kept

-- the callees' clauses, with the factor as it was given
taken-is : (c : After-plus_scaled) → takes c.args.self.count c.args.factor c.args.t.now ≡ true
taken-is c = ap (λ (k : ℤ). takes c.args.self.count k c.args.t.now) (sym (to_z-of_z w32 c.args.factor c.ranges.factor)) ∙ sym c.if-not-takes.ensures

sum_is : (c : After-plus_scaled) → wide_term c.plus_scaled.result ≡ plus (scaled c.args.factor c.args.t.now) (sum_of c.args.self)
sum_is c = c.plus_scaled.ensures ∙ ap (λ (k : ℤ). plus (scaled k c.args.t.now) (sum_of c.args.self)) (to_z-of_z w32 c.args.factor c.ranges.factor)

pub invariant_of-result : goal.invariant_of-result
invariant_of-result c =
    let s = c.args.self in
    record { kept = modest-more s.count s.sum s.kept c.args.factor c.args.t.now (taken-is c) c.plus_scaled.result (sum_is c) }

pub returns : goal.returns
returns c =
    let s = c.args.self in let d = goal.at.returns c in
    ap (λ (u : Term). Some (s.count + 1, u)) (sum_is d.After-plus_scaled)
    ∙ sym (ap (λ (b : Bool). cond b (Some (s.count + 1, plus (scaled c.args.factor c.args.t.now) (sum_of s))) None) (taken-is d.After-plus_scaled))
