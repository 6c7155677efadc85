-- The heads and needs of rules, as they lie in the records of a book.
use Rattle.std.proofs.Common.{◌≡◌, ℕ, zero, suc, ◌-◌, ◌*◌, ◌<◌, ◌≤◌, List, [], ◌∷◌, length, get_or, drop, Some, sym, ap, ◌∙◌, arith}
use Rattle.std.specs.List.{slice_get}
use Rattle.std.proofs.lemmas.List.{length-map, length-take, length-drop}
use Rattle.std.proofs.lemmas.Option.{slice_get-get_or, none-some, same_Some}
use Rattle.language.specs.Tree.{Expr, Rule, rule_at}
use Rattle.walking.specs.Walked.{with_bodies}
use Rattle.records.specs.declared.record.Record.{Record}
use Rattle.records.specs.Columns.{tables_in, params_in, entries_in, no_entry}
use Rattle.records.specs.Rules.{RulesStand}
use Rattle.records.specs.Slots.{length-slots}
use Rattle.records.specs.Tables.{stretch, param_of, conditions_in, condition_in}
use Rattle.records.proofs.Inverting.{rule_of}
use Rattle.running.proofs.Standing.{entry_all}
use Rattle.entering.specs.Inputs.{Headed}

length_stretch : {X : Type 0} (xs : List X) (from to : ℕ) → to ≤ length xs → length (stretch xs from to) ≡ to - from
length_stretch xs from to h = let a = length-take (to - from) (drop from xs) in let b = length-drop from xs in omega (arith, a, b, h)

-- a rule with another body has the same head and needs
with_bodies_at : (rs : List Rule) (bs : List Expr) (f : ℕ) (q : Rule) → slice_get (with_bodies rs bs) f ≡ Some q → (q.params ≡ (rule_at rs f).params) × (q.needs ≡ (rule_at rs f).needs)
unfolding with_bodies
with_bodies_at [] bs f q e = absurd (none-some q e)
with_bodies_at (r ∷ rs) [] f q e = absurd (none-some q e)
with_bodies_at (r ∷ rs) (b ∷ bs) zero q e = let s = same_Some _ _ e in (ap (λ (r : Rule). r.params) (sym s), ap (λ (r : Rule). r.needs) (sym s))
with_bodies_at (r ∷ rs) (b ∷ bs) (suc f) q e = with_bodies_at rs bs f q e

-- no rule has more than 12 parameters or as many needs as a number counts
pub headed : (r : List Record) (n : ℕ) (rules : List Rule) (bodies : List Expr) → n ≤ 4 * length r → RulesStand (tables_in r) (params_in r) 0 (entries_in r n) (with_bodies rules bodies)
    → (f : ℕ) → f < n → length (rule_at rules f).params ≤ 12 → length (rule_at rules f).needs < 4294967296 → Headed r f (rule_at rules f)
unfolding conditions_in
headed r n rules bodies within stand f h few_params few_needs =
    let l = length-slots (λ (z : Record). z.entries) no_entry r n in
    let e = get_or (entries_in r n) f no_entry in
    let g = slice_get-get_or (entries_in r n) f no_entry (omega (arith, l, h)) in
    let q = rule_of (tables_in r) (params_in r) 0 (entries_in r n) (with_bodies rules bodies) f e stand g in
    let same = with_bodies_at rules bodies f q.rule q.is in
    let ps = q.stands.params ∙ same.0 in
    let ns = q.stands.needs.reads ∙ same.1 in
    let a = length_stretch (params_in r) e.params.from e.params.to q.stands.within in
    let b = length_stretch (tables_in r).conditions e.needs.from e.needs.to q.stands.needs.within in
    let lp = length-map (stretch (params_in r) e.params.from e.params.to) param_of in
    let ln = length-map (stretch (tables_in r).conditions e.needs.from e.needs.to) (condition_in (tables_in r).items) in
    record {
      entry = e;
      found = entry_all r n f e within g;
      params = ps;
      few_params = (let z = ap length ps in omega (arith, a, lp, z, few_params));
      needs = ns;
      few_needs = (let z = ap length ns in omega (arith, b, ln, z, few_needs));
    }
