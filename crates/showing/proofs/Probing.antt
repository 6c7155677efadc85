-- A token is tried after others: where the fault is found.
use Rattle.std.proofs.Common.{◌≡◌, ℕ, ◌+◌, ◌<◌, Bool, true, false, not, eqb, List, [], ◌∷◌, length, get_or, set, Ok, Err, Result, sym, refl, ap, ◌∙◌, subst, inl, inr, arith, rules}
use Rattle.std.proofs.ByRecursion.{All-get_or}
use Rattle.std.proofs.lemmas.List.{get_or_append_left, get_or_past, get_or_push, get_or-set_same, get_or-set_other, length_push}
use Rattle.std.proofs.lemmas.Bool.{cases_eq, cases_order, eqb-true, eqb-false, not-true}
use Rattle.letters.specs.declared.kind.Kind.{Kind}
use Rattle.letters.specs.declared.kind.Kind.TheVariants.{Name, End}
use Rattle.letters.specs.declared.token.Token.{Token}
use Rattle.letters.specs.Every.{kinds}
use Rattle.letters.specs.Kinds.{number}
use Rattle.letters.specs.Tokens.{token_of}
use Rattle.letters.proofs.Numbering.{numbered}
use Rattle.grammar.specs.declared.node.Node.{Node}
use Rattle.grammar.specs.declared.unread.Unread.{Unread}
use Rattle.grammar.specs.declared.unread.Unread.TheVariants.{Full, Fault}
use Rattle.grammar.specs.Raw.{Sheet}
use Rattle.grammar.specs.Parsers.{Look, look_in, fault}
use Rattle.grammar.specs.Sheets.{sheet_s}
use Rattle.grammar.specs.Held.{Comes}
use Rattle.grammar.specs.Parsed.{Parsed}
use Rattle.grammar.specs.Derives.{DSheet, Upto}
use Rattle.grammar.specs.Lawful.{Lawful}
use Rattle.showing.specs.declared.probe.Probe.{Probe}
use Rattle.showing.specs.Fronts.{front, Kept}
use Rattle.showing.specs.Probes.{Apart, probed, passed, reads, stops, Tells}

module _ (ts : List Token) (w : ℕ) (k : Kind) (apart : Apart ts w) where
  abbrev probe : Look
  probe = look_in (probed ts w k) (w + 1)

  there : (probe (length ts)).place ≡ w
  there = ap (λ (t : Token). t.place) (get_or_push ts (token_of k w 0 0) (token_of End (w + 1) 0 0) (length ts) refl)

  -- no other token is at the place
  sole : (j : ℕ) → (probe j).place ≡ w → j ≡ length ts
  sole j e = elim (cases_order j (length ts)) [
    | inl q ↦ q
    | inr (inl q) ↦
        let a = ap (λ (t : Token). t.place) (get_or_append_left ts (token_of k w 0 0 ∷ []) (token_of End (w + 1) 0 0) j q) in
        let b = not-true _ (All-get_or (λ t. not (eqb t.place w) ≡ true) ts j (token_of End (w + 1) 0 0) q apart) in
        absurd (eqb-false _ w b (sym a ∙ e))
    | inr (inr q) ↦
        let n = length_push ts (token_of k w 0 0) in
        let a = ap (λ (t : Token). t.place) (get_or_past (probed ts w k) j (token_of End (w + 1) 0 0) (omega arith)) in
        let z : ⊥ = omega arith in absurd z
  ]

  pub tells : (r : Result ℕ Unread) (room : ℕ) (ns : List Node) → Parsed r (probed ts w k) (w + 1) room ns → Lawful r (probed ts w k) (w + 1) ns → length ts < room → Tells (passed r w) probe (length ts)
  tells (Ok n) room ns p g h = reads _ p.said.1.last p.said.1.came
  tells (Err Full) room ns p g h = let n = length_push ts (token_of k w 0 0) in let z : ⊥ = omega (arith, p.said) in absurd z
  tells (Err (Fault f)) room ns p g h = go (eqb f w) refl
    where
      go : (b : Bool) → eqb f w ≡ b → Tells (not b) probe (length ts)
      go true e = record {
        came = subst (λ j. Comes sheet_s probe 0 (fault j)) (sole p.said.1.faulty (sym p.said.1.place ∙ eqb-true f w e)) p.said.1.came;
        dead = subst (λ j. (m : Look) → Upto j probe m → (rs : Sheet) → DSheet m rs → ⊥) (sole g.faulty (sym g.place ∙ eqb-true f w e)) g.dead;
      }
      go false e = stops p.said.1.faulty (λ q. eqb-false f w e (p.said.1.place ∙ ap (λ j. (probe j).place) q ∙ there)) p.said.1.came

  pub tells_so : (r : Result ℕ Unread) (room : ℕ) (ns : List Node) (us : List Token) (b : Bool) → us ≡ probed ts w k → b ≡ passed r w
      → Parsed r us (w + 1) room ns → Lawful r us (w + 1) ns → length ts < room → Tells b probe (length ts)
  tells_so r room ns us b q s h g l =
      let h' = subst (λ (us : List Token). Parsed r us (w + 1) room ns) q h in
      let g' = subst (λ (us : List Token). Lawful r us (w + 1) ns) q g in
      subst (λ b. Tells b probe (length ts)) (sym s) (tells r room ns h' g' l)

-- what is told of the same tokens before the same place
pub kept_tells : {p q : Probe} (b : Bool) (k : Kind) → Kept p q → Tells b (look_in (probed (front q) q.place k) (q.place + 1)) (length (front q)) → Tells b (look_in (probed (front p) p.place k) (p.place + 1)) (length (front p))
kept_tells {p} {q} b k s h =
    subst (λ w. Tells b (look_in (probed (front p) w k) (w + 1)) (length (front p))) s.place (subst (λ (ts : List Token). Tells b (look_in (probed ts q.place k) (q.place + 1)) (length ts)) s.front h)

pub kept_on : {p q r : Probe} → Kept p q → Kept q r → Kept p r
kept_on s t = record { front = t.front ∙ s.front; room = t.room ∙ s.room; place = t.place ∙ s.place }

number_small : (k : Kind) → number k < 28
number_small k = search rules

-- one flag more, for the kind with the next number
pub one_more : (P : Bool → Kind → Type 0) (flags : List Bool) (i n : ℕ) (b : Bool) → length flags ≡ 28 → n ≡ number (get_or kinds i Name)
    → ((k : Kind) → number k < i → P (get_or flags (number k) false) k) → P b (get_or kinds i Name) → (k : Kind) → number k < i + 1 → P (get_or (set flags n b) (number k) false) k
one_more P flags i n b size at old new k h = elim (cases_eq (number k) n) [
  | inl e ↦
      let s : get_or kinds i Name ≡ k = sym (numbered (get_or kinds i Name)) ∙ ap (λ m. get_or kinds m Name) (sym at ∙ sym e) ∙ numbered k in
      let in' : n < length flags = omega (arith, number_small k) in
      let v : get_or (set flags n b) (number k) false ≡ b = ap (λ m. get_or (set flags n b) m false) e ∙ get_or-set_same flags n b false in' in
      subst (λ c. P c k) (sym v) (subst (P b) s new)
  | inr e ↦
      elim (cases_eq (number k) i) [
        | inl q ↦ absurd (e (ap number (sym (numbered k)) ∙ ap (λ m. number (get_or kinds m Name)) q ∙ sym at))
        | inr q ↦ subst (λ c. P c k) (sym (get_or-set_other flags n (number k) b false e)) (old k (omega arith))
      ]
]
