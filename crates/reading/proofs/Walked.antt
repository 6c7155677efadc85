-- What the walk leaves, as a sheet that records hold.
use Rattle.std.proofs.Common.{◌≡◌, ℕ, suc, ◌+◌, ◌<◌, ◌≤◌, Bool, true, false, cond, ◌&&◌, List, [], ◌∷◌, map, length, ℤ, pos, Some, None, Ok, Option, sym, refl, ap, ◌∙◌, subst, arith, ltb-true}
use Rattle.std.specs.Prelude.{int_le, nat_le, nat_lt}
use Rattle.std.specs.List.{AllByRecursion}
use Rattle.std.proofs.lemmas.Bool.{and_parts, and_from}
use Rattle.std.proofs.lemmas.List.{length-map}
use Rattle.grammar.specs.Raw as Raw
use Rattle.naming.specs.declared.written.Written.{Written}
use Rattle.naming.specs.Scopes.{Sheet}
use Rattle.naming.specs.Reaches.{sheet_of}
use Rattle.naming.specs.Sources.{rules_of}
use Rattle.naming.specs.Resolving.{param_of}
use Rattle.counting.specs.Counts.{places_of, FlatWithin}
use Rattle.counting.proofs.Params.{lists-and-numbers}
use Rattle.language.specs.declared.refusal.Refusal.{Refusal}
use Rattle.language.specs.declared.refusal.Refusal.TheVariants.{Full, Range}
use Rattle.language.specs.Drafts as Drafts
use Rattle.language.specs.Tree.{Rule}
use Rattle.language.specs.Walking.{Note, owes, fault, Obligation, walk_rules, obligations_of, first_fault}
use Rattle.records.specs.declared.entry.Entry.{Entry}
use Rattle.records.specs.declared.entry.Param.{Param}
use Rattle.records.specs.declared.record.Record.{Record}
use Rattle.records.specs.declared.laid.Laid.{Laid}
use Rattle.records.specs.Tables.{Tables}
use Rattle.records.specs.Columns.{Column, Columns, tables_by, tables_in, params_in, entries_in, no_entry}
use Rattle.records.specs.Laying.{columns_of, records_of, owed_of}
use Rattle.records.specs.Owing.{OwesFrom}
use Rattle.records.specs.Rules.{RulesStand}
use Rattle.records.specs.Slots.{length-slots}
use Rattle.records.proofs.Layings.{stand_in}
use Rattle.records.proofs.Rules.{rules-length, reads-rules}
use Rattle.resolving.specs.Resolving as Resolving
use Rattle.resolving.specs.Resolving.{rule_of}
use Rattle.resolving.specs.Ruling.{RulesMade}
use Rattle.walking.specs.Walked.{Ruled, with_bodies, WalkedWell}
use Rattle.reading.specs.declared.sizes.Sizes.{Sizes}
use Rattle.reading.specs.Reading.{least_records, in_range, Reads, read, walk_fault}
use Rattle.reading.specs.Answers.{Holds, walked}

-- no rule has more than 12 parameters, where none has more than 4 lists and 8 numbers
few_params : (S : Sheet) (rs : List Raw.Rule) → AllByRecursion (λ (r : Raw.Rule). length (places_of true r.params) ≤ 4) rs → AllByRecursion (λ (r : Raw.Rule). length (places_of false r.params) ≤ 8) rs → AllByRecursion (λ (r : Rule). length r.params ≤ 12) (map (rule_of S) rs)
few_params S [] a b = tt
few_params S (r ∷ rs) a b = (omega (arith, a.0, b.0, lists-and-numbers r.params, length-map r.params param_of), few_params S rs a.1 b.1)

-- rules that were resolved stand in the tables, none with too many parameters where no limit is passed
pub ruled : (w : Written) (p : Columns) → RulesMade (sheet_of w) (rules_of w) p → FlatWithin (length w.text.now) (rules_of w) p.nodes.entries p.conditions.entries → Ruled p (Resolving.sheet_of w.text.now (rules_of w))
ruled w p m k = record { stand = m.stand; few = few_params (sheet_of w) (rules_of w) k.lists k.numbers }

-- there are as many bodies as rules
with-bodies-length : (R rs : List Rule) (n : ℕ) → length (with_bodies rs (walk_rules R n rs).bodies) ≡ length rs
unfolding walk_rules with_bodies
with-bodies-length R [] n = refl
with-bodies-length R (r ∷ rs) n = ap suc (with-bodies-length R rs _)

bodies-length : (R rs : List Rule) (n : ℕ) → length (walk_rules R n rs).bodies ≡ length rs
unfolding walk_rules
bodies-length R [] n = refl
bodies-length R (r ∷ rs) n = ap suc (bodies-length R rs _)

-- the bodies of rules that stand in tables lie below as many positions as there are nodes
bodies-below : (t : Tables) (ps : List Param) (lo : ℕ) (es : List Entry) (rs : List Rule) → RulesStand t ps lo es rs → length t.nodes ≤ 16384 → AllByRecursion (λ (e : Entry). e.body < 16384) es
bodies-below t ps lo [] [] s h = tt
bodies-below t ps lo [] (r ∷ rs) s h = absurd s
bodies-below t ps lo (e ∷ es) [] s h = absurd s
bodies-below t ps lo (e ∷ es) (r ∷ rs) s h = let b = s.0.below in (omega (arith, b), bodies-below t ps _ es rs s.1 h)

-- where no fault is noted, each obligation has one of the first 128 numbers
numbers-low : (ns : List Note) → first_fault ns ≡ None → AllByRecursion (λ (o : Obligation). o.number < 128) (obligations_of ns)
unfolding first_fault obligations_of
numbers-low [] e = tt
numbers-low (owes o work ∷ ns) e = low (nat_lt o.number 128) refl (first_fault ns) (numbers-low ns) e
  where
    low : (b : Bool) → nat_lt o.number 128 ≡ b → (f : Option Refusal) → (f ≡ None → AllByRecursion (λ (o : Obligation). o.number < 128) (obligations_of ns)) → cond b f (Some (Full work)) ≡ None → (o.number < 128) × AllByRecursion (λ (o : Obligation). o.number < 128) (obligations_of ns)
    low true l f h e = (ltb-true o.number 128 l, h e)
    low false l f h e = let z : ◌≡◌ {A = Option Refusal} (Some (Full work)) None = e in absurd (grind arith)
numbers-low (fault r ∷ ns) e = let z : ◌≡◌ {A = Option Refusal} (Some r) None = e in absurd (grind arith)

-- so there are 128 at most
few-from : (records : List Record) (k : ℕ) (os : List Obligation) → OwesFrom records k os → AllByRecursion (λ (o : Obligation). o.number < 128) os → k ≤ 128 → k + length os ≤ 128
few-from records k [] w a h = omega arith
few-from records k (o ∷ os) w a h = let n = w.0.number in let z = few-from records (suc k) os w.1 a.1 (omega (arith, a.0)) in omega arith

-- what the walk leaves is held by the records
pub holds : (t u : Laid) (rules : List Rule) (sizes : Sizes) (low high : ℤ) → WalkedWell rules t u → Ruled (columns_of t) rules → length (columns_of t).nodes.entries ≤ 16384 → sizes.rules ≡ length (columns_of u).entries.entries → sizes.owed ≡ owed_of u → Holds (records_of u) sizes (walked low high rules)
holds t u rules sizes low high w d n e f =
    let r = records_of u in let w2 = walk_rules rules 0 rules in let rs = with_bodies rules w2.bodies in
    let k : sizes.rules ≡ u.counts.entries = e ∙ length-slots (λ r. r.entries) no_entry r u.counts.entries in
    let a : RulesStand (tables_in r) (params_in r) 0 (entries_in r sizes.rules) rs = subst (λ m. RulesStand (tables_in r) (params_in r) 0 (entries_in r m) rs) (sym k) (stand_in u 0 rs w.stand) in record {
      rules = e ∙ rules-length (tables_by (columns_of u)) (columns_of u).params.entries 0 (columns_of u).entries.entries rs w.stand ∙ with-bodies-length rules rules 0;
      stand = a;
      reads = reads-rules (tables_in r) (params_in r) 0 (entries_in r sizes.rules) rs a;
      owed = f ∙ w.count;
      owes = w.owes;
      few = omega (arith, few-from r 0 (obligations_of w2.notes) w.owes (numbers-low w2.notes w.faultless) (omega arith));
      small = record {
        room = (let x = u.within.entries in omega (arith, k, x));
        below = subst (λ m. AllByRecursion (λ (e : Entry). e.body < 16384) (entries_in r m)) (sym k)
            (subst (λ (es : Column Entry). AllByRecursion (λ (e : Entry). e.body < 16384) es.entries) (sym w.entries) (bodies-below (tables_by (columns_of t)) (columns_of t).params.entries 0 (columns_of t).entries.entries rules d.stand n));
        heads = d.few;
        bodies = bodies-length rules rules 0;
      };
    }

-- in a range, only the walk refuses rules
module _ (low high : ℤ) (records : ℕ) (rules : List Rule) (range : in_range low high records ≡ true) where
  pub refusal-is : Drafts.refusal_of low high rules ≡ walk_fault rules
  unfolding Drafts.refusal_of
  refusal-is =
      let p = and_parts (int_le low (pos 0)) (int_le (pos 0) high && nat_le least_records records) range in
      ap (λ b. cond b (walk_fault rules) (Some Range)) (and_from (int_le low (pos 0)) (int_le (pos 0) high) p.0 (and_parts (int_le (pos 0) high) (nat_le least_records records) p.1).0)

  pub refused : (r : Refusal) → walk_fault rules ≡ Some r → Drafts.refusal_of low high rules ≡ Some r
  refused r e = refusal-is ∙ e

  -- where it refuses none, they are taken as a sheet
  pub sheet-is-walked : walk_fault rules ≡ None → Drafts.sheet_of low high rules ≡ walked low high rules
  sheet-is-walked e = ap (λ o. Drafts.sheet_if o low high rules) (refusal-is ∙ e)

-- the rules that a text is read as are taken as a sheet
pub taken : (text : List ℕ) (low high : ℤ) (records : ℕ) (rules : List Rule) → Reads text low high records (Ok rules) → Drafts.sheet_of low high rules ≡ walked low high rules
taken text low high records _ (read {sheet = sheet} i c o n k w) = sheet-is-walked low high records _ i w
