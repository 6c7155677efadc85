-- Tokens up to a position, then others, then the end.
use Rattle.std.proofs.Common.{◌≡◌, ℕ, zero, suc, ◌+◌, List, [], ◌∷◌, refl, ap, ◌∙◌, arith}
use Rattle.letters.specs.declared.kind.Kind.TheVariants.{End}
use Rattle.letters.specs.declared.token.Token.{Token}
use Rattle.letters.specs.Kinds.{same_kind}
use Rattle.grammar.specs.Parsers.{Look, look_in, is_a}
use Rattle.grammar.specs.Derives.{Is, Before}
use Rattle.grammar.proofs.Finishing.{Runs, ran, runs}

pub spliced : ℕ → Look → List Token → Look
spliced zero l ts q = look_in ts 0 q
spliced (suc k) l ts zero = l zero
spliced (suc k) l ts (suc q) = spliced k (λ r. l (suc r)) ts q

pub spliced-before : (k : ℕ) (l : Look) (ts : List Token) → Before k l (spliced k l ts)
unfolding spliced
spliced-before zero l ts q h = absurd (omega arith)
spliced-before (suc k) l ts zero h = refl
spliced-before (suc k) l ts (suc q) h = spliced-before k (λ r. l (suc r)) ts q (omega arith)

spliced-after : (k : ℕ) (l : Look) (ts : List Token) (n : ℕ) → spliced k l ts (n + k) ≡ look_in ts 0 n
unfolding spliced
spliced-after zero l ts n = ap (look_in ts 0) (omega arith)
spliced-after (suc k) l ts n = ap (spliced (suc k) l ts) (let e : n + suc k ≡ suc (n + k) = omega arith in e) ∙ spliced-after k (λ r. l (suc r)) ts n

runs-out : (m : Look) (i : ℕ) (ts : List Token) → ((n : ℕ) → m (n + i) ≡ look_in ts 0 n) → (j : ℕ) × Runs m i ts j × Is End (m j)
unfolding same_kind
runs-out m i [] h = (i, ran, ap (is_a End) (ap m (let e : i ≡ 0 + i = omega arith in e) ∙ h 0))
runs-out m i (t ∷ ts) h =
    let r = runs-out m (suc i) ts (λ n. ap m (let e : n + suc i ≡ suc n + i = omega arith in e) ∙ h (suc n)) in
    (r.0, runs (ap m (let e : i ≡ 0 + i = omega arith in e) ∙ h 0) r.1, r.2)

-- the others are run through, and then the end stands
pub spliced-runs : (k : ℕ) (l : Look) (ts : List Token) → (j : ℕ) × Runs (spliced k l ts) k ts j × Is End (spliced k l ts j)
spliced-runs k l ts = runs-out (spliced k l ts) k ts (spliced-after k l ts)
