-- What owing one row comes to.
use Rattle.std.proofs.Common.{◌≡◌, ℕ, suc, ◌+◌, ◌*◌, ◌<◌, ◌≤◌, Bool, true, false, cond, ltb, List, [], ◌∷◌, ◌++◌, length, Some, None, Ok, Err, Option, Result, pos, sym, refl, ap, ◌∙◌, subst, arith, le-leb}
use Rattle.std.proofs.lemmas.Bool.{and_from, lt-ltb, le-ltb}
use Rattle.rows.specs.declared.row.Row.{Row}
use Rattle.language.specs.declared.duty.Duty.{Duty}
use Rattle.language.specs.declared.refusal.Refusal.TheVariants.{Full, Large}
use Rattle.language.specs.declared.check.Check.TheVariants.{Below, Above}
use Rattle.language.specs.declared.duty.Duty.TheVariants.{Check, Guard}
use Rattle.language.specs.declared.refusal.Refusal.{Refusal}
use Rattle.language.specs.declared.term.Term.{Term}
use Rattle.language.specs.Terms.{zero_term}
use Rattle.language.specs.Comparing.{at_most}
use Rattle.language.specs.Walking.{Note, owes, fault, Owing, owe, owe_all, owe_checks, obligations_of, first_fault}
use Rattle.language.proofs.Laws.{fault-first, fault-next}
use Rattle.std.proofs.lemmas.List.{append-nil, append_assoc, length-append}
use Rattle.std.proofs.lemmas.Option.{none-some}
use Rattle.records.specs.declared.laid.Laid.{Laid}
use Rattle.records.specs.Owing.{OwesAll, takes_one}
use Rattle.records.specs.Added.{OnePut}
use Rattle.records.specs.Laying.{records_of, owed_of}
use Rattle.walking.specs.Owing.{Pays, Breaks, Paid, owed_before, checks}

module _ (duty : Duty) (place work : ℕ) (facts : List Row) (count : ℕ) where
  pub owe-none : first_fault (owe duty place work facts count None).notes ≡ Some (Large work)
  unfolding owe first_fault
  owe-none = refl

  pub before-none : owed_before (owe duty place work facts count None).notes ≡ []
  unfolding owe owed_before
  before-none = refl

  module _ (row : Row) where
    pub before-full : 128 ≤ count → owed_before (owe duty place work facts count (Some row)).notes ≡ []
    unfolding owe owed_before
    before-full h = ap (λ b. cond b (record { number = count; duty = duty; place = place; facts = facts; goal = row } ∷ []) []) (le-ltb count 128 h)

    pub owe-full : 128 ≤ count → first_fault (owe duty place work facts count (Some row)).notes ≡ Some (Full work)
    unfolding owe first_fault
    owe-full h = ap (λ b. cond b None (Some (Full work))) (le-ltb count 128 h)

    pub owe-fine : count < 128 → first_fault (owe duty place work facts count (Some row)).notes ≡ None
    unfolding owe first_fault
    owe-fine h = ap (λ b. cond b None (Some (Full work))) (lt-ltb count 128 h)

    pub owe-one : obligations_of (owe duty place work facts count (Some row)).notes ≡ record { number = count; duty = duty; place = place; facts = facts; goal = row } ∷ []
    unfolding owe obligations_of
    owe-one = refl

    pub owe-count : (owe duty place work facts count (Some row)).count ≡ suc count
    unfolding owe
    owe-count = refl

pub owed-append : (ms ns : List Note) → obligations_of (ms ++ ns) ≡ obligations_of ms ++ obligations_of ns
unfolding obligations_of
owed-append [] ns = refl
owed-append (owes o work ∷ ms) ns = ap (λ os. o ∷ os) (owed-append ms ns)
owed-append (fault r ∷ ms) ns = owed-append ms ns

-- before the first fault stands all that is noted where there is none, and then what follows
before-next : (ms ns : List Note) → first_fault ms ≡ None → owed_before (ms ++ ns) ≡ obligations_of ms ++ owed_before ns
unfolding first_fault owed_before obligations_of
before-next [] ns e = refl
before-next (fault q ∷ ms) ns e = absurd (none-some q (sym e))
before-next (owes o work ∷ ms) ns e = go (ltb o.number 128) (before-next ms ns) e
  where
    go : (b : Bool) → (first_fault ms ≡ None → owed_before (ms ++ ns) ≡ obligations_of ms ++ owed_before ns) → cond b (first_fault ms) (Some (Full work)) ≡ None → cond b (o ∷ owed_before (ms ++ ns)) [] ≡ o ∷ (obligations_of ms ++ owed_before ns)
    go true f e = ap (λ os. o ∷ os) (f e)
    go false f e = absurd (none-some (Full work) (sym e))

-- what follows the first fault is none of it
before-first : (ms ns : List Note) (r : Refusal) → first_fault ms ≡ Some r → owed_before (ms ++ ns) ≡ owed_before ms
unfolding first_fault owed_before
before-first [] ns r e = absurd (none-some r e)
before-first (fault q ∷ ms) ns r e = refl
before-first (owes o work ∷ ms) ns r e = go (ltb o.number 128) (before-first ms ns r) e
  where
    go : (b : Bool) → (first_fault ms ≡ Some r → owed_before (ms ++ ns) ≡ owed_before ms) → cond b (first_fault ms) (Some (Full work)) ≡ Some r → cond b (o ∷ owed_before (ms ++ ns)) [] ≡ cond b (o ∷ owed_before ms) []
    go true f e = ap (λ os. o ∷ os) (f e)
    go false f e = refl

-- there is room for it
pub has_room : (records count facts : ℕ) → 3200 ≤ records → facts ≤ 24 → count < 128 → takes_one records count facts ≡ true
has_room records count facts s f h = and_from _ _ (le-leb facts 24 f) (le-leb (25 * (count + 1)) records (omega arith))

pub pays-one : (t u : Laid) (duty : Duty) (place work : ℕ) (facts : List Row) (row : Row) → owed_of t < 128 → OnePut t u duty place facts row → Pays (owe duty place work facts (owed_of t) (Some row)) t u
pays-one t u duty place work facts row h p = record {
  faultless = owe-fine duty place work facts (owed_of t) row h;
  columns = p.columns;
  count = p.count ∙ sym (owe-count duty place work facts (owed_of t) row);
  number = (let e = ap length (owe-one duty place work facts (owed_of t) row) in omega (arith, p.count));
  owes = λ os e o. subst (λ ps. OwesAll (records_of u) (os ++ ps)) (sym (owe-one duty place work facts (owed_of t) row)) (p.owes os e o);
}

-- nothing is owed
pub pays-none : (t : Laid) → Pays (record { count = owed_of t; notes = [] }) t t
unfolding obligations_of first_fault
pays-none t = record { faultless = refl; columns = refl; count = refl; number = omega arith; owes = λ os e w. subst (λ ps. OwesAll (records_of t) ps) (sym (append-nil os)) w }

-- one step after another
pub pays-then : (o p : Owing) (t u v : Laid) → Pays o t u → Pays p u v → Pays (record { count = p.count; notes = o.notes ++ p.notes }) t v
pays-then o p t u v a b =
    let e = owed-append o.notes p.notes in record {
      faultless = fault-next o.notes p.notes a.faultless ∙ b.faultless;
      columns = b.columns ∙ a.columns;
      count = b.count;
      number = omega (arith, a.number, b.number, ap length e, length-append (obligations_of o.notes) (obligations_of p.notes));
      owes = λ os h w. subst (λ ps. OwesAll (records_of v) ps) (append_assoc os (obligations_of o.notes) (obligations_of p.notes) ∙ sym (ap (λ qs. os ++ qs) e))
          (b.owes (os ++ obligations_of o.notes) (omega (arith, a.number, length-append os (obligations_of o.notes))) (a.owes os h w));
    }

-- a fault where nothing was owed
pub breaks-here : (r : Refusal) (ns : List Note) (t : Laid) → first_fault ns ≡ Some r → owed_before ns ≡ [] → Breaks r ns t t
breaks-here r ns t f e = record {
  fault = f;
  columns = refl;
  number = omega (arith, ap length e);
  owes = λ os h w. subst (λ ps. OwesAll (records_of t) ps) (sym (ap (λ ps. os ++ ps) e ∙ append-nil os)) w;
}

pub breaks-then : (r : Refusal) (o : Owing) (ns : List Note) (t u v : Laid) → Pays o t u → Breaks r ns u v → Breaks r (o.notes ++ ns) t v
breaks-then r o ns t u v a b =
    let e = before-next o.notes ns a.faultless in record {
      fault = fault-next o.notes ns a.faultless ∙ b.fault;
      columns = b.columns ∙ a.columns;
      number = omega (arith, a.number, b.number, ap length e, length-append (obligations_of o.notes) (owed_before ns));
      owes = λ os h w. subst (λ ps. OwesAll (records_of v) ps) (append_assoc os (obligations_of o.notes) (owed_before ns) ∙ sym (ap (λ qs. os ++ qs) e))
          (b.owes (os ++ obligations_of o.notes) (omega (arith, a.number, h, length-append os (obligations_of o.notes))) (a.owes os h w));
    }

pub breaks-first : (r : Refusal) (ms ns : List Note) (t u : Laid) → Breaks r ms t u → Breaks r (ms ++ ns) t u
breaks-first r ms ns t u b =
    let e = before-first ms ns r b.fault in record {
      fault = fault-first ms ns r b.fault;
      columns = b.columns;
      number = omega (arith, b.number, ap length e);
      owes = λ os h w. subst (λ ps. OwesAll (records_of u) (os ++ ps)) (sym e) (b.owes os h w);
    }

-- the second step, after one that went well
pub paid-then : (r : Result (Unit {0}) Refusal) (o p : Owing) (t u v : Laid) → Pays o t u → Paid r p u v → Paid r (record { count = p.count; notes = o.notes ++ p.notes }) t v
paid-then (Ok w) o p t u v a b = pays-then o p t u v a b
paid-then (Err e) o p t u v a b = breaks-then e o p.notes t u v a b

-- rows that are owed as guards, one after another
module _ (place : ℕ) (facts : List Row) where
  pub owed-none : (t : Laid) → Pays (owe_all place facts (owed_of t) []) t t
  unfolding owe_all
  owed-none t = pays-none t

  pub owed-then : (r : Result (Unit {0}) Refusal) (o : Option Row) (rs : List (Option Row)) (t u v : Laid) → Pays (owe Guard place place facts (owed_of t) o) t u → Paid r (owe_all place facts (owed_of u) rs) u v → Paid r (owe_all place facts (owed_of t) (o ∷ rs)) t v
  unfolding owe_all
  owed-then r o rs t u v a b =
      let one = owe Guard place place facts (owed_of t) o in
      paid-then r one (owe_all place facts one.count rs) t u v a (subst (λ n. Paid r (owe_all place facts n rs) u v) a.count b)

  pub owed-stop : (r : Refusal) (o : Option Row) (rs : List (Option Row)) (t u : Laid) → Breaks r (owe Guard place place facts (owed_of t) o).notes t u → Breaks r (owe_all place facts (owed_of t) (o ∷ rs)).notes t u
  unfolding owe_all
  owed-stop r o rs t u b = breaks-first r _ _ t u b

-- the checks of an index are two steps
pub both-checks : (place work : ℕ) (facts : List Row) (count : ℕ) (index size : Term) →
    checks place work facts count index size
    ≡ record {
      count = (owe (Check Above) place work facts (owe (Check Below) place work facts count (at_most (pos 0) zero_term index)).count (at_most (pos 1) index size)).count;
      notes = (owe (Check Below) place work facts count (at_most (pos 0) zero_term index)).notes ++ (owe (Check Above) place work facts (owe (Check Below) place work facts count (at_most (pos 0) zero_term index)).count (at_most (pos 1) index size)).notes;
    }
unfolding owe_checks
both-checks place work facts count index size = refl
