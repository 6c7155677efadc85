-- Drafts after a settling.
use Rattle.std.proofs.Common.{◌≡◌, ℕ, ◌-◌, ◌<◌, true, false, List, [], ◌∷◌, ◌++◌, length, set, replicate, Some, None, Ok, Err, Option, Result, sym, refl, ap, ◌∙◌, subst, arith}
use Rattle.std.proofs.lemmas.Bool.{true≢false}
use Rattle.std.proofs.lemmas.List.{length-set, set-append_left}
use Rattle.provers.specs.Proposals.{Short}
use Rattle.language.specs.declared.refusal.Refusal.{Refusal}
use Rattle.language.specs.Drafts as Drafts
use Rattle.language.specs.Drafts.{Sheet, settle, settled, mark_if}
use Rattle.language.specs.Histories.{Lawful, Brief, ShortEnough, Step, settling, ready, draft_after}
use Rattle.reading.specs.declared.sizes.Sizes.{Sizes}
use Rattle.records.specs.declared.record.Record.{Record}
use Rattle.reading.specs.Answers.{Holds}
use Rattle.engine.specs.declared.draft.Draft.{Draft}
use Rattle.engine.specs.Drafting.{DraftIs}
use Rattle.engine.specs.Settling.{Marked, Settles}

pub short_enough : (p : Option (List ℕ)) → Short p → ShortEnough p
short_enough None h = h
short_enough (Some c) h = h

-- a draft of the definition with other marks, as it lies in records
marked_is : (old new : Draft) (d : Drafts.Draft) (n : ℕ) → n < old.sizes.owed → Marked old new n → DraftIs old d → DraftIs new (record { sheet = d.sheet; marks = set d.marks n true })
marked_is old new d n below m is =
    let long = length-set d.marks n true in
    let within : n < length d.marks = omega (arith, is.many, is.holds.owed) in record {
      holds = subst (λ (rs : List Record). Holds rs new.sizes d.sheet) (sym m.beside.records) (subst (λ (s : Sizes). Holds old.records.now s d.sheet) (sym m.beside.sizes) is.holds);
      low = m.beside.low ∙ is.low;
      high = m.beside.high ∙ is.high;
      many = long ∙ is.many;
      marks = m.marks ∙ ap (λ xs. set xs n true) is.marks ∙ set-append_left d.marks (replicate (128 - length d.marks) false) n true within ∙ ap (λ k. set d.marks n true ++ replicate (128 - k) false) (sym long);
    }

module _ (n : ℕ) (m : Drafts.Domain) (p : Drafts.Prover) (l : Lawful m) (b : Brief p) where
  -- a settling after a history is a step more
  one_more : (d : Drafts.Draft) (history : List Step) → draft_after d (history ++ settling n m l p b ∷ []) ≡ settled (draft_after d history) n m p
  unfolding draft_after
  one_more d [] = refl
  one_more d (settling k e f q c ∷ history) = one_more (settled d k e q) history
  one_more d (ready ∷ history) = one_more d history

  steps_so : (new old : Draft) → ((d : Drafts.Draft) → DraftIs old d → DraftIs new (settled d n m p)) → (d : Drafts.Draft) (history : List Step) → DraftIs old (draft_after d history) → DraftIs new (draft_after d (history ++ settling n m l p b ∷ []))
  steps_so new old after d history is = subst (DraftIs new) (sym (one_more d history)) (after (draft_after d history) is)

  pub refusal_settles : (draft : Draft) (r : Refusal) → ((d : Drafts.Draft) → DraftIs draft d → Err r ≡ settle d n m p) → Settles (Err r) draft draft n m p
  refusal_settles draft r value =
      let after = λ (d : Drafts.Draft) (is : DraftIs draft d). subst (λ (x : Result (Unit {0}) Refusal). DraftIs draft (record { sheet = d.sheet; marks = mark_if x n d.marks })) (value d is) is in record {
        lawful = l;
        brief = b;
        answers = value;
        after = after;
        steps = steps_so draft draft after;
        beside = record { records = refl; low = refl; high = refl; sizes = refl };
        refused = λ e. refl;
      }

  pub marking_settles : (old new : Draft) → n < old.sizes.owed → Marked old new n → ((d : Drafts.Draft) → DraftIs old d → Ok tt ≡ settle d n m p) → Settles (Ok tt) old new n m p
  marking_settles old new below marked value =
      let after = λ (d : Drafts.Draft) (is : DraftIs old d). subst (λ (x : Result (Unit {0}) Refusal). DraftIs new (record { sheet = d.sheet; marks = mark_if x n d.marks })) (value d is) (marked_is old new d n below marked is) in record {
        lawful = l;
        brief = b;
        answers = value;
        after = after;
        steps = steps_so new old after;
        beside = marked.beside;
        refused = λ e. absurd (true≢false e);
      }
