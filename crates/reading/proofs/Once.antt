-- Reading has one answer.
use Rattle.std.proofs.Common.{◌≡◌, ℕ, ◌<◌, ⊎_elim, ◌⊎◌, true, false, List, length, ℤ, Some, None, Ok, Err, Option, Result, inl, inr, sym, refl, ap, ◌∙◌, subst, arith}
use Rattle.std.proofs.lemmas.Bool.{both_ways, cases_lt}
use Rattle.std.proofs.lemmas.Option.{none-some, same_Some}
use Rattle.letters.specs.Cuts.{cut_of}
use Rattle.grammar.specs.Raw as Raw
use Rattle.grammar.specs.Parsers.{Look}
use Rattle.grammar.specs.Lawful.{OnlySheet, NoSheet}
use Rattle.naming.specs.Faults.{name_fault}
use Rattle.counting.specs.Counts.{count_fault}
use Rattle.resolving.specs.Resolving.{sheet_of}
use Rattle.language.specs.declared.refusal.Refusal.{Refusal}
use Rattle.language.specs.declared.refusal.Refusal.TheVariants.{Range, Grammar, Name, Full}
use Rattle.language.specs.Tree.{Rule}
use Rattle.reading.specs.Reading.{in_range, misspelling, tokens_of, walk_fault, Reads, out_of_range, misspelt, no-sheet, misnamed, too_many, unwalkable, read}

abbrev pub Answer : Type 0
Answer = Result (List Rule) Refusal

-- a stage that may find a fault, which is the answer; else what is left gives it
module _ {A : Type 0} (fault : Option A) (answer : A → Answer) (Left : Answer → Type 0) where
  abbrev Stage : Answer → Type 0
  Stage a = ((x : A) × (fault ≡ Some x) × (a ≡ answer x)) ⊎ ((fault ≡ None) × Left a)

  stage_once : ((a b : Answer) → Left a → Left b → a ≡ b) → (a b : Answer) → Stage a → Stage b → a ≡ b
  stage_once once a b (inl (x, e, p)) (inl (y, d, q)) = p ∙ ap answer (same_Some x y (sym e ∙ d)) ∙ sym q
  stage_once once a b (inl (x, e, p)) (inr (n, l)) = absurd (none-some x (sym n ∙ e))
  stage_once once a b (inr (n, l)) (inl (x, e, p)) = absurd (none-some x (sym n ∙ e))
  stage_once once a b (inr (n, l)) (inr (m, k)) = once a b l k

-- of two faults of the grammar neither token stands before the other
module _ (l : Look) where
  not_before : (p q : ℕ) (f : NoSheet l p) (g : NoSheet l q) → f.faulty < g.faulty → ⊥
  not_before p q f g h = f.dead g.begun.tokens (λ i k. g.begun.same i (omega (arith, h, k))) g.begun.sheet g.begun.derived

  no_sheet_once : (p q : ℕ) → NoSheet l p → NoSheet l q → p ≡ q
  no_sheet_once p q f g = f.place ∙ ap (λ i. (l i).place) (⊎_elim (λ h. absurd (not_before p q f g h)) (λ h. ⊎_elim (λ k. absurd (not_before q p g f k)) (λ k. omega (arith, h, k)) (cases_lt g.faulty f.faulty)) (cases_lt f.faulty g.faulty)) ∙ sym g.place

  not_both : (p : ℕ) (rs : Raw.Sheet) → NoSheet l p → OnlySheet l rs → ⊥
  not_both p rs f o = f.dead l (λ i k. refl) rs o.derived

module _ (text : List ℕ) (low high : ℤ) (records : ℕ) where
  abbrev rules : Raw.Sheet → List Rule
  rules sheet = sheet_of text sheet

  abbrev Walking : Raw.Sheet → Answer → Type 0
  Walking sheet = Stage (walk_fault (rules sheet)) Err (λ a. a ≡ Ok (rules sheet))

  abbrev Counting : Raw.Sheet → Answer → Type 0
  Counting sheet = Stage (count_fault (length text) sheet (rules sheet)) (λ p. Err (Full p)) (Walking sheet)

  abbrev Naming : Raw.Sheet → Answer → Type 0
  Naming sheet = Stage (name_fault text sheet) (λ p. Err (Name p)) (Counting sheet)

  abbrev Parsing : Answer → Type 0
  Parsing a = ((p : ℕ) × NoSheet (tokens_of text) p × (a ≡ Err (Grammar p))) ⊎ ((sheet : Raw.Sheet) × OnlySheet (tokens_of text) sheet × Naming sheet a)

  abbrev Cutting : Answer → Type 0
  Cutting = Stage (cut_of text).fault (λ m. Err (misspelling m)) Parsing

  abbrev Ranging : Answer → Type 0
  Ranging a = ((in_range low high records ≡ false) × (a ≡ Err Range)) ⊎ ((in_range low high records ≡ true) × Cutting a)

  naming_once : (sheet : Raw.Sheet) (a b : Answer) → Naming sheet a → Naming sheet b → a ≡ b
  naming_once sheet = stage_once _ _ _ (stage_once _ _ _ (stage_once _ _ _ (λ a b e d. e ∙ sym d)))

  parsing_once : (a b : Answer) → Parsing a → Parsing b → a ≡ b
  parsing_once a b (inl (p, f, e)) (inl (q, g, d)) = e ∙ ap (λ r. Err (Grammar r)) (no_sheet_once (tokens_of text) p q f g) ∙ sym d
  parsing_once a b (inl (p, f, e)) (inr (sheet, o, n)) = absurd (not_both (tokens_of text) p sheet f o)
  parsing_once a b (inr (sheet, o, n)) (inl (p, f, e)) = absurd (not_both (tokens_of text) p sheet f o)
  parsing_once a b (inr (sheet, o, n)) (inr (other, k, m)) = naming_once other a b (subst (λ s. Naming s a) (k.only sheet o.derived) n) m

  ranging_once : (a b : Answer) → Ranging a → Ranging b → a ≡ b
  ranging_once a b (inl (i, e)) (inl (j, d)) = e ∙ sym d
  ranging_once a b (inl (i, e)) (inr (j, c)) = absurd (both_ways _ i j)
  ranging_once a b (inr (i, c)) (inl (j, e)) = absurd (both_ways _ j i)
  ranging_once a b (inr (i, c)) (inr (j, d)) = stage_once _ _ _ parsing_once a b c d

staged : (text : List ℕ) (low high : ℤ) (records : ℕ) (a : Answer) → Reads text low high records a → Ranging text low high records a
staged text low high records a (out_of_range i) = inl (i, refl)
staged text low high records a (misspelt i c) = inr (i, inl (_, c, refl))
staged text low high records a (no-sheet i c f) = inr (i, inr (c, inl (_, f, refl)))
staged text low high records a (misnamed i c o n) = inr (i, inr (c, inr (_, o, inl (_, n, refl))))
staged text low high records a (too_many i c o n k) = inr (i, inr (c, inr (_, o, inr (n, inl (_, k, refl)))))
staged text low high records a (unwalkable i c o n k w) = inr (i, inr (c, inr (_, o, inr (n, inr (k, inl (_, w, refl))))))
staged text low high records a (read i c o n k w) = inr (i, inr (c, inr (_, o, inr (n, inr (k, inr (w, refl))))))

-- a text is read as one thing, in a range with so many records
pub reads_once : (text : List ℕ) (low high : ℤ) (records : ℕ) (a b : Answer) → Reads text low high records a → Reads text low high records b → a ≡ b
reads_once text low high records a b r s = ranging_once text low high records a b (staged text low high records a r) (staged text low high records b s)
