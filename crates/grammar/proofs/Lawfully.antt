-- What the parsers answer is the grammar's sheet, or there is none.
use Rattle.std.proofs.Common.{◌≡◌, ℕ, ◌≤◌, max, List, length, Err, Result, sym, ◌∙◌, subst, arith}
use Rattle.letters.specs.declared.token.Token.{Token}
use Rattle.grammar.specs.declared.node.Node.{Node}
use Rattle.grammar.specs.declared.unread.Unread.{Unread}
use Rattle.grammar.specs.declared.unread.Unread.TheVariants.{Fault}
use Rattle.grammar.specs.Parsers.{Look, fault, look_in}
use Rattle.grammar.specs.Sheets.{sheet_s}
use Rattle.grammar.specs.Trees.{rules_to}
use Rattle.grammar.specs.Parsed.{source_of, Sheeted, Faulted, Parsed}
use Rattle.grammar.specs.Lawful.{OnlySheet, Begun, NoSheet, Lawful}
use Rattle.grammar.proofs.Inverts.{no-fault, done-val}
use Rattle.grammar.proofs.Sound.{sheet-sound}
use Rattle.grammar.proofs.Whole.{sheet-full}
use Rattle.grammar.proofs.Local.{Seen, sheet-good}
use Rattle.grammar.proofs.Finishing.{can-of}
use Rattle.grammar.proofs.Completing.{sheet-goes}
use Rattle.grammar.proofs.Splicing.{spliced, spliced-before, spliced-runs}

pub only-sheet : (ts : List Token) (e k : ℕ) (ns : List Node) → Sheeted ts e k ns → OnlySheet (look_in ts e) (rules_to (source_of ts e) k ns)
only-sheet ts e k ns h = record {
  derived = sheet-sound (look_in ts e) h.came.0 _ h.last (h.came.1 h.came.0 (omega arith));
  only = λ qs d.
      let c = sheet-full (look_in ts e) qs d in
      let f = max c.0 h.came.0 in
      done-val (sym (c.1 f (omega arith)) ∙ h.came.1 f (omega arith));
}

-- the tokens before the fault, finished
begun : (l : Look) (f k : ℕ) → sheet_s f l 0 ≡ fault k → Begun l k
begun l f k e =
    let c = can-of l (sheet-goes l f) e in
    let r = spliced-runs k l c.tokens in
    let m : Look = spliced k l c.tokens in
    let d = c.so m (spliced-before k l c.tokens) r.0 r.1 in
    record { tokens = m; same = spliced-before k l c.tokens; sheet = d.0; derived = record { last = r.0; rules = d.1; ends = r.2 } }

pub no-sheet : (ts : List Token) (e w : ℕ) → Faulted ts e w → NoSheet (look_in ts e) w
no-sheet ts e w h = record {
  faulty = h.faulty;
  place = h.place;
  begun = begun (look_in ts e) h.came.0 h.faulty (h.came.1 h.came.0 (omega arith));
  dead = λ m u rs d.
      let l : Look = look_in ts e in
      let c = sheet-full m rs d in
      let f = max c.0 h.came.0 in
      let here : sheet_s f l 0 ≡ fault h.faulty = h.came.1 f (omega arith) in
      let there : sheet_s f m 0 ≡ fault h.faulty = (sheet-good f).same l m 0 (subst (λ a. Seen a l m) (sym here) u) ∙ here in
      no-fault (sym there ∙ c.1 f (omega arith));
}

pub refused : (r : Result ℕ Unread) (ts : List Token) (e w room : ℕ) (ns : List Node) → r ≡ Err (Fault w) → length ts ≤ room → Faulted ts e w → Parsed r ts e room ns × Lawful r ts e ns
refused r ts e w room ns q fits h = subst (λ (r : Result ℕ Unread). Parsed r ts e room ns × Lawful r ts e ns) (sym q) (record { said = (fits, h) }, no-sheet ts e w h)
