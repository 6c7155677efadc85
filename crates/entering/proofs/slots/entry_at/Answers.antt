use Rattle.std.proofs.Common.{rules, ◌≡◌, ◌*◌, length, ◌%◌, sym, ap, arith, ◌∙◌}
use Rattle.std.specs.List.{slice_get}
use Rattle.std.proofs.lemmas.Option.{slice_get-get_or}
use Rattle.records.specs.Columns.{no_entry}
use Rattle.records.specs.declared.record.Record.{Record}
use Rattle.records.specs.Slots.{slots_get, slots-past}
use Rattle.entering.proofs.slots.entry_at.Goals as goal

pub returns-in_err-record : goal.returns-in_err-record
returns-in_err-record c =
    let past = slots-past (λ (r : Record). r.entries) no_entry c.args.records.now (4 * length c.args.records.now) c.args.at (omega (arith, c.in_err-record.ensures.lookup.3)) in
    c.from_residual.ensures ∙ sym past

pub returns : goal.returns
returns c =
    let l = c.in_ok-record.ensures.lookup.3 in
    let n : length c.in_ok-record.record.now.entries ≡ 4 = search rules in
    let got = slice_get-get_or c.in_ok-record.record.now.entries (c.args.at % 4) no_entry (omega (arith, n)) in
    sym (slots_get (λ (r : Record). r.entries) no_entry c.args.records.now (4 * length c.args.records.now) c.args.at _ c.in_ok-record.record.now (omega (arith, l.0)) l.0
    (ap (λ (r : Record). slice_get r.entries (c.args.at % 4)) (sym (l.1 c.in_ok-record.record.now)) ∙ got))
