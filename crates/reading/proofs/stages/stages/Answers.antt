-- Each answer begins with names for the parts of its own goal, which has a type of its own.
use Rattle.std.specs.Prelude.{IfOk}
use Rattle.std.proofs.Common.{rules, ◌≡◌, ℕ, ◌≤◌, Bool, [], length, take, ℤ, Err, sym, refl, ap, ◌∙◌, subst, ap₂, arith, w32, SFits, to_z, of_z}
use Rattle.std.proofs.lemmas.Int.{to_z-of_z}
use Rattle.letters.specs.Cuts.{cut_of}
use Rattle.letters.specs.Spelling as Spelling
use Rattle.letters.specs.Spelling.{Told}
use Rattle.grammar.specs.Parsers.{look_in}
use Rattle.grammar.specs.Derives.{DSheet}
use Rattle.grammar.specs.Lawful.{OnlySheet, Lawful}
use Rattle.grammar.specs.Parsed.{Parsed}
use Rattle.naming.specs.Sources.{sheet_in}
use Rattle.reading.specs.Reading.{misspelling, misreading, in_range, out_of_range, misspelt}
use Rattle.reading.specs.Answers.{Staged}
use Rattle.reading.proofs.Sheets.{Same, same-fit, same-derived, same-checked}
use Rattle.reading.proofs.Staging.{ok_kept, err_kept, cut_ok, cut-err, cut-front, cut-few, small, sheet-is, refused-by-grammar, checked-answers, enough}
use Rattle.reading.proofs.stages.stages.Goals as goal

in_reach : (low high : ℤ) (count records : ℕ) (b : Bool) → SFits w32 low → SFits w32 high → b ≡ in_range (to_z w32 (of_z w32 low)) (to_z w32 (of_z w32 high)) count → count ≡ records → in_range low high records ≡ b
in_reach low high count records b l h e k = sym (ap₂ (λ x y. in_range x y records) (to_z-of_z w32 low l) (to_z-of_z w32 high h)) ∙ ap (in_range (to_z w32 (of_z w32 low)) (to_z w32 (of_z w32 high))) (sym k) ∙ sym e

pub returns-then-not-in_range : goal.returns-then-not-in_range
returns-then-not-in_range c = out_of_range (in_reach _ _ _ _ _ c.ranges.low c.ranges.high c.in_range.ensures refl ∙ c.if-not-in_range.true)

pub returns-in_err-count : goal.returns-in_err-count
returns-in_err-count c =
    let i = in_reach c.args.low c.args.high _ (length c.args.records.now) _ c.ranges.low c.ranges.high c.in_range.ensures refl ∙ c.if-not-in_range.false in
    let d = c.in_err-count.field-0.0 in
    let k = err_kept _ c.cut.result c.map_err.result d c.map_err.ensures.cases c.in_err-count.was in
    let m : d ≡ misspelling k.0 = k.2 in
    let q : c.from_residual.result ≡ Err d = search rules in
    subst (λ r. Staged r c.args.text.now c.args.low c.args.high (length c.args.records.now) c.args.records.now) (sym (q ∙ ap Err m)) (misspelt i (cut-err (cut_of c.args.text.now) k.0 (sym k.1 ∙ c.cut.ensures.value)))

pub returns-in_err-made : goal.returns-in_err-made
returns-in_err-made c =
    let i = in_reach c.args.low c.args.high _ (length c.args.records.now) _ c.ranges.low c.ranges.high c.in_range.ensures refl ∙ c.if-not-in_range.false in
    let text = c.args.text.now in let n = c.in_ok-count.count in let nodes = c.parse.new.nodes in let ts = take n c.cut.new.tokens in
    let k = ok_kept _ c.cut.result c.map_err.result n c.map_err.ensures.cases c.in_ok-count.was in
    let value = sym k ∙ c.cut.ensures.value in
    let cut_few = subst (λ r. IfOk r (λ m. m ≤ 16384)) k c.cut.ensures.few in
    let d = c.in_err-made.field-0.0 in
    let j = err_kept _ c.parse.result c.map_err-2.result d c.map_err-2.ensures.cases c.in_err-made.was in
    let m : d ≡ misreading j.0 = j.2 in
    let q : c.from_residual-in_err-made.result ≡ Err d = search rules in
    let parsed = subst (λ r. Parsed r ts (length text) 16384 nodes) j.1 c.parse.ensures.parsed in
    let lawful = subst (λ r. Lawful r ts (length text) nodes) j.1 c.parse.ensures.law in
    subst (λ r. Staged r text c.args.low c.args.high (length c.args.records.now) c.args.records.now) (sym (q ∙ ap Err m))
    (refused-by-grammar text _ _ _ j.0 ts nodes 16384 i (cut_ok (cut_of text) n value).0 (cut-front text _ c.cut.new.tokens n value c.cut.ensures.written) (cut-few text _ c.cut.new.tokens n 16384 value c.cut.ensures.written cut_few) parsed lawful)

pub names_to_walk-requires : goal.names_to_walk-requires
names_to_walk-requires c =
    let i = in_reach c.args.low c.args.high _ (length c.args.records.now) _ c.ranges.low c.ranges.high c.in_range.ensures refl ∙ c.if-not-in_range.false in
    let text = c.args.text.now in let n = c.in_ok-count.count in let made = c.in_ok-made.made in
    let k = ok_kept _ c.cut.result c.map_err.result n c.map_err.ensures.cases c.in_ok-count.was in
    let value = sym k ∙ c.cut.ensures.value in let nodes = c.parse.new.nodes in
    let ts = take n c.cut.new.tokens in
    let cut_few = subst (λ r. IfOk r (λ m. m ≤ 16384)) k c.cut.ensures.few in
    let law = subst (λ r. Told text r c.cut.new.tokens) k c.cut.ensures.law in
    let j = ok_kept _ c.parse.result c.map_err-2.result made c.map_err-2.ensures.cases c.in_ok-made.was in
    let parsed = subst (λ r. Parsed r ts (length text) 16384 nodes) j c.parse.ensures.parsed in
    let lawful = subst (λ r. Lawful r ts (length text) nodes) j c.parse.ensures.law in
    let r : Spelling.Reads 0 text ts [] = law.0 in
    let few = cut-few text _ c.cut.new.tokens n 16384 value c.cut.ensures.written cut_few in
    let s = parsed.said.1 in
    let long = c.parse.auto.nodes in
    let w = c.new-sheet.result in let ns = take made nodes in
    let same : Same w text ts ns = record { of-text = c.new-sheet.ensures.text; of-tokens = c.new-sheet.ensures.tokens; of-nodes = c.new-sheet.ensures.nodes } in record {
      fit = same-fit w text ts ns same few (small text ts r (length text));
      derived = same-derived w text ts ns same few (subst (DSheet (look_in ts (length text))) (sym (sheet-is text ts nodes made few (omega (arith, s.within, long)) s.within)) lawful.derived);
      ample = enough c.args.low c.args.high (length c.args.records.now) i;
    }

pub returns : goal.returns
returns c =
    let i = in_reach c.args.low c.args.high _ (length c.args.records.now) _ c.ranges.low c.ranges.high c.in_range.ensures refl ∙ c.if-not-in_range.false in
    let text = c.args.text.now in let n = c.in_ok-count.count in let made = c.in_ok-made.made in
    let k = ok_kept _ c.cut.result c.map_err.result n c.map_err.ensures.cases c.in_ok-count.was in
    let value = sym k ∙ c.cut.ensures.value in let nodes = c.parse.new.nodes in
    let ts = take n c.cut.new.tokens in
    let cut_few = subst (λ r. IfOk r (λ m. m ≤ 16384)) k c.cut.ensures.few in
    let j = ok_kept _ c.parse.result c.map_err-2.result made c.map_err-2.ensures.cases c.in_ok-made.was in
    let parsed = subst (λ r. Parsed r ts (length text) 16384 nodes) j c.parse.ensures.parsed in
    let lawful = subst (λ r. Lawful r ts (length text) nodes) j c.parse.ensures.law in
    let few = cut-few text _ c.cut.new.tokens n 16384 value c.cut.ensures.written cut_few in
    let s = parsed.said.1 in
    let long = c.parse.auto.nodes in
    let sheet = sheet_in text ts (take made nodes) in
    let only : OnlySheet (look_in ts (length text)) sheet = subst (OnlySheet (look_in ts (length text))) (sym (sheet-is text ts nodes made few (omega (arith, s.within, long)) s.within)) lawful in
    checked-answers c.names_to_walk.result text _ _ (length c.args.records.now) sheet _ i (sym c.names_to_walk.auto.records) (cut_ok (cut_of text) n value).0
    (subst (λ us. OnlySheet (look_in us (length text)) sheet) (cut-front text _ c.cut.new.tokens n value c.cut.ensures.written) only)
    (same-checked c.new-sheet.result text ts (take made nodes) (record { of-text = c.new-sheet.ensures.text; of-tokens = c.new-sheet.ensures.tokens; of-nodes = c.new-sheet.ensures.nodes }) c.names_to_walk.result _ c.names_to_walk.ensures)
