-- The law of the layer over the first facts: what follows from some of the facts follows from all.
use Rattle.std.specs.Prelude.{◌≡◌, ℕ, ◌≤◌, true, cond, List, [], ◌∷◌, length, take, ℤ, nat_le}
use Rattle.std.proofs.Common.{sym, ap, ◌∙◌}
use Rattle.std.proofs.lemmas.Bool.{le-leb}
use Rattle.rows.specs.declared.row.Row.{Row}
use Rattle.rows.specs.Meaning.{Follows}
use Rattle.rows.specs.Questions.{well_shaped}
use Rattle.rows.proofs.Same.{meets-take}
use Rattle.domains.specs.declared.fault.Reason.TheVariants.{Shape, Number}
use Rattle.domains.specs.Faults.{Outcome, Good, fault, raised}
use Rattle.domains.specs.Outcomes.{good-parts, good-below}
use Rattle.quoted.specs.Firsts.{first}

module _ (below : List Row → Row → List ℕ → Outcome) where
  pub first-sound : (low high : ℤ) → ((facts : List Row) (goal : Row) (cert : List ℕ) → Good (below facts goal cert) → Follows low high facts goal) → (facts : List Row) (goal : Row) (cert : List ℕ) → Good (first below facts goal cert) → Follows low high facts goal
  first-sound low high sound facts goal [] g = absurd g
  first-sound low high sound facts goal (n ∷ rest) g =
      let p = good-parts (well_shaped facts goal) _ Shape g in
      let k = good-parts (nat_le n (length facts)) _ Number p.1 in
      let f = sound (take n facts) goal rest (good-below _ k.1) in
      record { follows = λ q w h. f.follows q w (meets-take q n facts h) }

  -- what the layer answers where it asks below
  pub first-asks : (facts : List Row) (goal : Row) (cert : List ℕ) (n : ℕ) (rest : List ℕ) → cert ≡ n ∷ rest → well_shaped facts goal ≡ true → n ≤ length facts → raised (below (take n facts) goal rest) ≡ first below facts goal cert
  first-asks facts goal cert n rest e s h =
      sym (ap (first below facts goal) e
      ∙ ap (λ b. cond b (cond (nat_le n (length facts)) (raised (below (take n facts) goal rest)) (fault Number)) (fault Shape)) s
      ∙ ap (λ b. cond b (raised (below (take n facts) goal rest)) (fault Number)) (le-leb n (length facts) h))
