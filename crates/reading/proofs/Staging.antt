-- From stage to stage: the tokens that were cut, and the sheet that was parsed.
use Rattle.std.proofs.Common.{◌≡◌, ℕ, ◌≤◌, true, List, [], length, get_or, take, drop, ℤ, Some, None, Ok, Err, Option, Result, MatchResult, sym, refl, ap, ◌∙◌, subst, ap₂, inl, inr, arith, leb-true}
use Rattle.std.specs.Prelude.{IsErrAnd}
use Rattle.std.proofs.lemmas.List.{take_all, take_at, take-append-drop, length-take-le, get_or_past}
use Rattle.std.proofs.ByRecursion.{All-get_or}
use Rattle.std.proofs.lemmas.Bool.{cases_lt, and_parts}
use Rattle.letters.specs.declared.kind.Kind.TheVariants.{End}
use Rattle.letters.specs.declared.token.Token.{Token}
use Rattle.letters.specs.declared.misspelt.Misspelt.{Misspelt}
use Rattle.letters.specs.Tokens.{token_of, bytes_of}
use Rattle.letters.specs.Cuts.{Cut, cut_of, answer, answer_by, laid}
use Rattle.letters.specs.Spelling.{Reads}
use Rattle.letters.specs.Standing as Standing
use Rattle.letters.proofs.Places.{reads-stand, spelt-small}
use Rattle.grammar.specs.declared.node.Node.{Node}
use Rattle.grammar.specs.declared.unread.Unread.{Unread}
use Rattle.grammar.specs.declared.unread.Unread.TheVariants.{Full, Fault}
use Rattle.grammar.specs.Raw as Raw
use Rattle.grammar.specs.Parsers.{look_in}
use Rattle.grammar.specs.Parsed.{source_of, Parsed}
use Rattle.grammar.specs.Trees.{rules_to}
use Rattle.grammar.proofs.Parts.{rules-front}
use Rattle.grammar.specs.Lawful.{OnlySheet, NoSheet, Lawful}
use Rattle.naming.specs.Sources.{sheet_in}
use Rattle.resolving.specs.Making.{Small}
use Rattle.language.specs.declared.refusal.Refusal.{Refusal}
use Rattle.records.specs.declared.record.Record.{Record}
use Rattle.resolving.specs.Resolving.{sheet_of}
use Rattle.reading.specs.declared.sizes.Sizes.{Sizes}
use Rattle.reading.specs.Answers.{Staged, Holds, Checked, misnamed, too_many, unwalkable}
use Rattle.reading.proofs.Walked.{sheet-is-walked}
use Rattle.reading.specs.Reading as Reading
use Rattle.reading.specs.Reading.{in_range, misspelling, misreading, tokens_of, misspelt, no-sheet}

answer_ok : (o : Option Misspelt) (n m : ℕ) → Ok n ≡ answer_by o m → (o ≡ None) × (n ≡ m)
answer_ok None n m e = (refl, cc)
answer_ok (Some w) n m e = cc

pub cut_ok : (c : Cut) (n : ℕ) → Ok n ≡ answer c → (c.fault ≡ None) × (n ≡ length c.tokens)
cut_ok c n e = answer_ok c.fault n (length c.tokens) e

answer_err : (o : Option Misspelt) (w : Misspelt) (m : ℕ) → Err w ≡ answer_by o m → o ≡ Some w
answer_err None w m e = cc
answer_err (Some v) w m e = cc

pub cut-err : (c : Cut) (w : Misspelt) → Err w ≡ answer c → c.fault ≡ Some w
cut-err c w e = answer_err c.fault w (length c.tokens) e

-- there are records enough
pub enough : (low high : ℤ) (records : ℕ) → in_range low high records ≡ true → 4096 ≤ records
enough low high records i = leb-true 4096 records (and_parts _ _ (and_parts _ _ i).1).1

-- the tokens at the front
pub front : (ts old all : List Token) (n : ℕ) → all ≡ laid ts old → n ≡ length ts → take n all ≡ ts
front ts old all n e h = ap₂ take h e ∙ take_at ts (drop (length ts) old) (length ts) refl

pub cut-front : (text : List ℕ) (old all : List Token) (n : ℕ) → Ok n ≡ answer (cut_of text) → all ≡ laid (cut_of text).tokens old → take n all ≡ (cut_of text).tokens
cut-front text old all n e w = front (cut_of text).tokens old all n w (cut_ok (cut_of text) n e).1

pub cut-few : (text : List ℕ) (old all : List Token) (n k : ℕ) → Ok n ≡ answer (cut_of text) → all ≡ laid (cut_of text).tokens old → n ≤ k → length (take n all) ≤ k
cut-few text old all n k e w h = let a = ap length (cut-front text old all n e w) in let b = (cut_ok (cut_of text) n e).1 in omega arith

-- their numerals are small
pub small : (text : List ℕ) (ts : List Token) → Reads 0 text ts [] → (e q : ℕ) → Small (look_in ts e q)
small text ts r e q = elim (cases_lt q (length ts)) [
  | inl h ↦ let s = All-get_or (Standing.Stands text) ts q (token_of End e 0 0) h (reads-stand r) in record { value = spelt-small (get_or ts q (token_of End e 0 0)) (bytes_of text (get_or ts q (token_of End e 0 0))) s.1 }
  | inr h ↦ subst Small (sym (get_or_past ts q (token_of End e 0 0) h)) (record { value = omega arith })
]

-- the sheet of the nodes that were made
pub sheet-is : (text : List ℕ) (ts : List Token) (ns : List Node) (k : ℕ) → length ts ≤ 16384 → k ≤ 16384 → k ≤ length ns → sheet_in text ts (take k ns) ≡ rules_to (source_of ts (length text)) k ns
sheet-is text ts ns k h l m =
    let s = source_of ts (length text) in
    let n = length-take-le k ns m in
    let e : take 16384 (take k ns) ≡ take k ns = take_all 16384 (take k ns) (omega arith) in
    ap₂ (λ xs ys. rules_to (record { tokens = xs; end = length text }) (length ys) ys) (take_all 16384 ts h) e
    ∙ ap (λ j. rules_to s j (take k ns)) n
    ∙ sym (rules-front s k (take k ns) (drop k ns) (omega arith))
    ∙ ap (rules_to s k) (take-append-drop k ns)

pub refused-by-grammar : (text : List ℕ) (low high : ℤ) (records : ℕ) (w : Unread) (ts : List Token) (ns : List Node) (room : ℕ) → in_range low high records ≡ true → (cut_of text).fault ≡ None → ts ≡ (cut_of text).tokens → length ts ≤ room → Parsed (Err w) ts (length text) room ns → Lawful (Err w) ts (length text) ns → Reading.Reads text low high records (Err (misreading w))
refused-by-grammar text low high records Full ts ns room i c e h p l = absurd (let k = p.said in omega arith)
refused-by-grammar text low high records (Fault q) ts ns room i c e h p l = no-sheet i c (subst (λ xs. NoSheet (look_in xs (length text)) q) e l)

-- what names, counts and the walk say is the answer, where the stages before them passed
pub checked-answers : (r : Result Sizes Refusal) (text : List ℕ) (low high : ℤ) (count : ℕ) (sheet : Raw.Sheet) (records : List Record) → in_range low high count ≡ true → count ≡ length records → (cut_of text).fault ≡ None → OnlySheet (tokens_of text) sheet → Checked r text sheet records → Staged r text low high count records
checked-answers (Ok sizes) text low high count sheet records i l c o k =
    let rules = sheet_of text sheet in let range = subst (λ m. in_range low high m ≡ true) l i in record {
      rules = rules;
      reads = Reading.read range c o k.named k.counted k.faultless;
      holds = subst (Holds records sizes) (sym (sheet-is-walked low high (length records) rules range k.faultless)) (k.holds low high);
    }
checked-answers (Err _) text low high count sheet records i l c o (misnamed n) = Reading.misnamed i c o n
checked-answers (Err _) text low high count sheet records i l c o (too_many n f) = Reading.too_many i c o n f
checked-answers (Err _) text low high count sheet records i l c o (unwalkable n f w) = Reading.unwalkable i c o n f w

-- an error that is turned into another
module _ {E D : Type 0} (P : E → D → Type 0) where
  pub ok_kept : (r : Result ℕ E) (s : Result ℕ D) (n : ℕ) → MatchResult r (λ x. s ≡ Ok x) (λ e. IsErrAnd s (P e)) → s ≡ Ok n → r ≡ Ok n
  ok_kept (Ok x) s n m e = ap Ok (let z : x ≡ n = cc in z)
  ok_kept (Err x) s n m e = let z : IsErrAnd {T = ℕ} (Ok n) (P x) = subst (λ q. IsErrAnd q (P x)) e m in absurd z

  pub err_kept : (r : Result ℕ E) (s : Result ℕ D) (d : D) → MatchResult r (λ x. s ≡ Ok x) (λ e. IsErrAnd s (P e)) → s ≡ Err d → (e : E) × (r ≡ Err e) × P e d
  err_kept (Ok x) s d m e = let z : ◌≡◌ {A = ℕ} 0 1 = cc in let no : ⊥ = omega arith in absurd no
  err_kept (Err x) s d m e = (x, refl, subst (λ q. IsErrAnd q (P x)) e m)
