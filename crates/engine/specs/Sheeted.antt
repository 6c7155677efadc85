-- Records that hold a sheet which was taken in a range, beside marks of what it owes.
use Rattle.std.specs.Prelude.{◌≡◌, ◌-◌, Bool, false, List, ◌++◌, length, replicate, ℤ}
use Rattle.language.specs.Tree.{Rule}
use Rattle.language.specs.Drafts.{sheet_of}
use Rattle.records.specs.declared.record.Record.{Record}
use Rattle.reading.specs.declared.sizes.Sizes.{Sizes}
use Rattle.reading.specs.Answers.{Holds}

-- the sheet that these rules were taken as, in its own range; the marks of its obligations stand before others, which are false
pub record Sheeted (low high : ℤ) (records : List Record) (sizes : Sizes) (marks : List Bool) : Type 0 where
  pub bottom : ℤ
  pub top : ℤ
  pub rules : List Rule
  pub own : List Bool
  pub holds : Holds records sizes (sheet_of bottom top rules)
  pub from : low ≡ (sheet_of bottom top rules).low
  pub to : high ≡ (sheet_of bottom top rules).high
  pub many : length own ≡ length (sheet_of bottom top rules).obligations
  pub stand : marks ≡ own ++ replicate (128 - length own) false
