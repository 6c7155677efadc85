-- What a draft keeps as one more obligation is marked: settled rows follow, and the records hold its sheet.
use Rattle.std.proofs.Common.{◌≡◌, ℕ, ◌-◌, ◌<◌, Bool, true, false, List, ◌++◌, length, replicate, set, ℤ, sym, ap, ◌∙◌, subst, ⊎_elim, arith}
use Rattle.std.proofs.lemmas.Bool.{cases_eq}
use Rattle.std.proofs.lemmas.List.{get_or-set_other, length-set, set-append_left}
use Rattle.records.specs.declared.record.Record.{Record}
use Rattle.records.specs.Owing.{Owes}
use Rattle.engine.specs.Kept.{Kept}
use Rattle.reading.specs.declared.sizes.Sizes.{Sizes}
use Rattle.engine.specs.Sheeted.{Sheeted}
use Rattle.engine.specs.Settling.{FollowsAt}

pub kept_more : (low high : ℤ) (records : List Record) (owed : ℕ) (marks : List Bool) (n : ℕ) → Kept low high records owed marks → FollowsAt low high records n → Kept low high records owed (set marks n true)
kept_more low high records owed marks n kept follows s =
    ⊎_elim
    (λ e. follows s.obligation (subst (λ (i : ℕ). Owes records i s.obligation) e s.owes))
    (λ other. kept (record { number = s.number; obligation = s.obligation; below = s.below; marked = sym (get_or-set_other marks n s.number true false other) ∙ s.marked; owes = s.owes }))
    (cases_eq s.number n)

-- own marks, one more of them true, stand before the same others
pub set_own : (marks own : List Bool) (n : ℕ) → marks ≡ own ++ replicate (128 - length own) false → n < length own → set marks n true ≡ set own n true ++ replicate (128 - length (set own n true)) false
set_own marks own n e within =
    ap (λ xs. set xs n true) e ∙ set-append_left own (replicate (128 - length own) false) n true within ∙ ap (λ k. set own n true ++ replicate (128 - k) false) (sym (length-set own n true))

pub sheeted_more : (low high : ℤ) (records : List Record) (sizes : Sizes) (marks : List Bool) (n : ℕ) → n < sizes.owed → Sheeted low high records sizes marks → Sheeted low high records sizes (set marks n true)
sheeted_more low high records sizes marks n below s = record {
  bottom = s.bottom;
  top = s.top;
  rules = s.rules;
  own = set s.own n true;
  holds = s.holds;
  from = s.from;
  to = s.to;
  many = length-set s.own n true ∙ s.many;
  stand = set_own marks s.own n s.stand (omega (arith, below, s.many, s.holds.owed));
}
