-- How a derived row is made of its parts.
use Rattle.std.proofs.Common.{◌≡◌, ℕ, Bool, true, false, cond, ◌&&◌, List, ℤ, Some, None, Option, refl, ap, ◌∙◌, ap₂}
use Rattle.rows.specs.Limits.{small, all_small}
use Rattle.provers.specs.declared.derived.Derived.{Derived}
use Rattle.provers.specs.Derivations.{kept, within, all_modest, quotients}

-- a row of parts that may each be missing
abbrev pub assembled : Option ℤ → Option (List ℤ) → Option (List ℕ) → Option Derived
assembled None cs ts = None
assembled (Some b) None ts = None
assembled (Some b) (Some cs) None = None
assembled (Some b) (Some cs) (Some ts) = Some (record { coefs = cs; bound = b; times = ts })

pub parts-kept : (b : ℤ) (cs : List ℤ) (ts : List ℕ) → assembled (kept small b) (kept all_small cs) (kept all_modest ts) ≡ kept within (record { coefs = cs; bound = b; times = ts })
parts-kept b cs ts = by (small b) (all_small cs) (all_modest ts)
  where
    by : (x y z : Bool) → assembled (cond x (Some b) None) (cond y (Some cs) None) (cond z (Some ts) None) ≡ cond ((x && y) && z) (Some (record { coefs = cs; bound = b; times = ts })) None
    by false y z = refl
    by true false z = refl
    by true true false = refl
    by true true true = refl

pub same_parts : (b b' : Option ℤ) (cs cs' : Option (List ℤ)) (ts ts' : Option (List ℕ)) → b ≡ b' → cs ≡ cs' → ts ≡ ts' → assembled b cs ts ≡ assembled b' cs' ts'
same_parts b b' cs cs' ts ts' e f h = ap₂ (λ x y. assembled x y ts) e f ∙ ap (assembled b' cs') h

pub same-quotients : (g g' : ℕ) (cs cs' : List ℤ) (b b' : ℤ) (ts ts' : List ℕ) → g ≡ g' → cs ≡ cs' → b ≡ b' → ts ≡ ts' → kept within (quotients g cs b ts) ≡ kept within (quotients g' cs' b' ts')
same-quotients g g' cs cs' b b' ts ts' e f h k = ap₂ (λ x y. kept within (quotients x y b ts)) e f ∙ ap₂ (λ x y. kept within (quotients g' cs' x y)) h k
