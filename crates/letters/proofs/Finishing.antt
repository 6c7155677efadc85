-- What is owed where the cutting of a text ends.
use Rattle.std.proofs.Common.{◌≡◌, ℕ, ◌<◌, ◌≤◌, List, [], length, take, drop, None, Err, Option, Result, sym, refl, ap, ◌∙◌, subst, arith}
use Rattle.std.proofs.lemmas.List.{length-take-le}
use Rattle.letters.specs.declared.token.Token.{Token}
use Rattle.letters.specs.declared.misspelt.Misspelt.{Misspelt}
use Rattle.letters.specs.declared.misspelt.Misspelt.TheVariants.{Length}
use Rattle.letters.specs.Cuts.{Cut, cut_from, cut_of, answer_by, answer, laid}
use Rattle.letters.specs.Spelling.{Reads, Told, Bracketed}
use Rattle.letters.proofs.Depths.{bracketed}
use Rattle.letters.proofs.Steps.{before, before-stop, laid-is, cut-is, cut-long}
use Rattle.letters.proofs.Telling.{Outcome, outcome, only, told-by}

pub record Finished (text : List ℕ) (r : Result ℕ Misspelt) (new old : List Token) : Type 0 where
  pub value : r ≡ answer (cut_of text)
  pub written : new ≡ laid (cut_of text).tokens old
  pub brackets : Bracketed text r
  pub law : Told text r new

-- n tokens are written, and what is left of the text gives no more
pub finish : (text : List ℕ) (n : ℕ) (new old : List Token) (f : Option Misspelt) (c : Cut) → length text ≤ 16384 → n ≤ length new → drop n new ≡ drop n old → cut_from 0 0 0 text ≡ before (take n new) c → c ≡ record { tokens = []; fault = f } → Finished text (answer_by f n) new old
finish text n new old f c short fits same e last =
    let q : cut_of text ≡ record { tokens = take n new; fault = f } = cut-is text short ∙ e ∙ ap (before (take n new)) last ∙ before-stop (take n new) f in
    let l = length-take-le n new fits in
    let sole : f ≡ None → (us : List Token) → Reads 0 text us [] → us ≡ take n new = λ h us r. only r 0 refl (ap (λ (d : Cut). d.fault) (sym (cut-is text short) ∙ q) ∙ h) ∙ ap (λ (d : Cut). d.tokens) (sym (cut-is text short) ∙ q) in
    let o = subst (Outcome 0 text) (sym (cut-is text short) ∙ q) (outcome (length text) 0 0 text (omega arith)) in
    record {
      value = ap (answer_by f) (sym l) ∙ sym (ap answer q);
      written = laid-is n new old fits same ∙ ap (λ (d : Cut). laid d.tokens old) (sym q);
      brackets = bracketed text f n (ap (λ (d : Cut). d.fault) (sym (cut-is text short) ∙ q));
      law = subst (λ m. Told text (answer_by f m) new) l (told-by text (take n new) new f o.left (ap (λ m. take m new) l) sole o.reads o.leaves);
    }

pub finish-long : (text : List ℕ) (old : List Token) → 16384 < length text → Finished text (Err Length) old old
finish-long text old h = let q = cut-long text h in record { value = sym (ap answer q); written = ap (λ (d : Cut). laid d.tokens old) (sym q); brackets = tt; law = h }
