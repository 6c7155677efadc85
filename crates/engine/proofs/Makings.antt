-- A draft over records is that of the sheet which lies there.
use Rattle.std.proofs.Common.{◌≡◌, ℕ, Bool, List, [], length, replicate, false, ℤ, pos, Ok, Err, sym, refl, ap, ◌∙◌, subst, arith}
use Rattle.std.proofs.lemmas.List.{length-replicate}
use Rattle.language.specs.declared.refusal.Refusal.{Refusal}
use Rattle.language.specs.Walking.{walk_rules, obligations_of, first_fault}
use Rattle.language.specs.Drafts.{Sheet, sheet_of, refusal_of, no_sheet, draft_of}
use Rattle.records.specs.declared.record.Record.{Record}
use Rattle.records.specs.Columns.{first_slots}
use Rattle.reading.specs.declared.sizes.Sizes.{Sizes}
use Rattle.reading.specs.Reading.{Reads}
use Rattle.walking.specs.Walked.{with_bodies}
use Rattle.reading.specs.Answers.{Holds, Stood}
use Rattle.engine.specs.declared.draft.Draft.{Draft}
use Rattle.engine.specs.Drafting.{DraftIs}
use Rattle.reading.proofs.Walked.{taken}
use Rattle.reading.proofs.Once.{reads_once}
use Rattle.engine.specs.Sheeted.{Sheeted}
use Rattle.engine.specs.Taking.{Fresh, Made}
use Rattle.engine.proofs.Marks.{marks_split}

empty : (records : List Record) → Holds records (record { rules = 0; owed = 0 }) no_sheet
unfolding first_slots with_bodies
empty records = record { rules = refl; stand = tt; reads = refl; owed = refl; owes = tt; few = omega arith; small = record { room = omega arith; below = tt; heads = tt; bodies = refl } }

-- what was read is held, with nothing marked
pub read_sheeted : (text : List ℕ) (low high : ℤ) (records : List Record) (sizes : Sizes) → Stood text low high sizes records → Sheeted low high records sizes (replicate 128 false)
read_sheeted text low high records sizes t =
    let sheet = sheet_of low high t.rules in
    let e = taken text low high (length records) t.rules t.reads in record {
      bottom = low;
      top = high;
      rules = t.rules;
      own = replicate (length sheet.obligations) false;
      holds = t.holds;
      from = sym (ap (λ (s : Sheet). s.low) e);
      to = sym (ap (λ (s : Sheet). s.high) e);
      many = length-replicate (length sheet.obligations) false;
      stand = marks_split (length sheet.obligations) t.holds.few;
    }

nothing : no_sheet ≡ sheet_of (pos 0) (pos 0) []
unfolding refusal_of walk_rules first_fault obligations_of
nothing = refl

-- so is a sheet without rules
pub none_sheeted : (records : List Record) → Sheeted (pos 0) (pos 0) records (record { rules = 0; owed = 0 }) (replicate 128 false)
none_sheeted records =
    let sheet = sheet_of (pos 0) (pos 0) [] in
    let holds = subst (Holds records (record { rules = 0; owed = 0 })) nothing (empty records) in record {
      bottom = pos 0;
      top = pos 0;
      rules = [];
      own = replicate (length sheet.obligations) false;
      holds = holds;
      from = ap (λ (s : Sheet). s.low) nothing;
      to = ap (λ (s : Sheet). s.high) nothing;
      many = length-replicate (length sheet.obligations) false;
      stand = marks_split (length sheet.obligations) holds.few;
    }

-- the same range by other names
pub sheeted_named : (lo hi low high : ℤ) (records : List Record) (sizes : Sizes) (marks : List Bool) → lo ≡ low → hi ≡ high → ∥ Sheeted low high records sizes marks ∥₁ → ∥ Sheeted lo hi records sizes marks ∥₁
sheeted_named lo hi low high records sizes marks l h x = subst (λ (z : ℤ). ∥ Sheeted z hi records sizes marks ∥₁) (sym l) (subst (λ (z : ℤ). ∥ Sheeted low z records sizes marks ∥₁) (sym h) x)

draft_is : (draft : Draft) (records : List Record) (sizes : Sizes) (sheet : Sheet) → Fresh draft records sheet.low sheet.high sizes → Holds records sizes sheet → DraftIs draft (draft_of sheet)
draft_is draft records sizes sheet f l = record {
  holds = subst (λ rs. Holds rs draft.sizes sheet) (sym f.over) (subst (λ (s : Sizes). Holds records s sheet) (sym f.of) l);
  low = f.from;
  high = f.to;
  many = length-replicate (length sheet.obligations) false;
  marks = f.unmarked ∙ marks_split (length sheet.obligations) l.few;
}

made : (draft : Draft) (text : List ℕ) (low high : ℤ) (records : List Record) (sizes : Sizes) → Stood text low high sizes records → Fresh draft records low high sizes → Made draft text low high (length records)
made draft text low high records sizes t f =
    let sheet = sheet_of low high t.rules in
    let e = taken text low high (length records) t.rules t.reads in record {
      answer = Ok t.rules;
      reads = t.reads;
      only = λ other r. reads_once text low high (length records) other (Ok t.rules) r t.reads;
      is = draft_is draft records sizes sheet (record { over = f.over; from = f.from ∙ sym (ap (λ (s : Sheet). s.low) e); to = f.to ∙ sym (ap (λ (s : Sheet). s.high) e); of = f.of; unmarked = f.unmarked }) t.holds;
    }

-- the range and the number of records by other names
module _ (draft : Draft) (text : List ℕ) (lo hi low high : ℤ) (l : lo ≡ low) (h : hi ≡ high) where
  named : (n : ℕ) → Made draft text lo hi n → Made draft text low high n
  named n m = subst (λ z. Made draft text z high n) l (subst (λ z. Made draft text lo z n) h m)

  pub taken_made : (n : ℕ) (records : List Record) (sizes : Sizes) → length records ≡ n → Stood text lo hi sizes records → Fresh draft records lo hi sizes → Made draft text low high n
  taken_made n records sizes e t f = named n (subst (Made draft text lo hi) e (made draft text lo hi records sizes t f))

  pub refused_made : (n : ℕ) (records : List Record) (r : Refusal) → Reads text lo hi n (Err r) → Fresh draft records (pos 0) (pos 0) (record { rules = 0; owed = 0 }) → Made draft text low high n
  refused_made n records r e f = named n (record { answer = Err r; reads = e; only = λ other s. reads_once text lo hi n other (Err r) s e; is = draft_is draft records _ no_sheet f (empty records) })
