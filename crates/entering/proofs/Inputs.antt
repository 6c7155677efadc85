-- What a run is given, from its entry to its end.
use Rattle.std.proofs.Common.{◌≡◌, ℕ, zero, suc, ◌+◌, ◌-◌, ◌<◌, ◌≤◌, Bool, true, false, cond, T, List, [], ◌∷◌, map, length, ℤ, Some, None, Ok, Err, Option, sym, refl, ap, ap₂, ◌∙◌, subst, arith, leb→le}
use Rattle.std.specs.Prelude.{nat_le}
use Rattle.std.specs.List.{slice_get}
use Rattle.std.proofs.lemmas.Bool.{lt-ltb, le-ltb, and_parts}
use Rattle.std.proofs.lemmas.Option.{same_Some, none-some}
use Rattle.language.specs.declared.ending.End.{End}
use Rattle.language.specs.declared.part.Part.{Part}
use Rattle.language.specs.declared.refusal.Refusal.TheVariants.{Call, Input, Needs}
use Rattle.language.specs.Limits.{most_fuel}
use Rattle.language.specs.Tree.{Condition, rule_at}
use Rattle.language.specs.Drafts.{Sheet, marked}
use Rattle.language.specs.Running as Running
use Rattle.language.specs.Running.{Outcome, wild, State, Ran, Dropped, in_range, part_at, enter, run}
use Rattle.language.specs.Entering as Entering
use Rattle.language.specs.Entering.{gathered, every, part_fits, allowed, first_broken, Answer, astray, end_of, run_rule, run_if_met, run_if_allowed, run_if_callable, values_for}
use Rattle.records.specs.declared.entry.Entry.{Entry}
use Rattle.records.specs.Columns.{tables_in, params_in}
use Rattle.records.specs.Tables.{stretch, param_of, conditions_in}
use Rattle.running.specs.declared.program.Program.{Program}
use Rattle.running.specs.Ending.{program_of}
use Rattle.running.specs.Evaluating.{Short}
use Rattle.running.specs.Ruling.{rule_in, RuleRuns, Answers}
use Rattle.running.specs.Standing.{all_entries}
use Rattle.entering.specs.Gathering.{AllShort, Gathered}
use Rattle.entering.specs.Inputs.{Tamed, Ready, Answered}

-- parts that may be given are short
all_short : (high : ℤ) (size : ℕ) (ps : List Part) → every (part_fits high size) ps ≡ true → AllShort ps
unfolding every
all_short high size [] e = tt
all_short high size (p ∷ ps) e =
    let a = and_parts (part_fits high size p) (every (part_fits high size) ps) e in
    let b = and_parts (nat_le (p.start + p.length) size) _ a.0 in
    let c = and_parts (nat_le p.length 4096) _ b.1 in
    let l = leb→le p.length 4096 (subst T (sym c.0) tt) in
    (omega (arith, l), all_short high size ps a.1)

pub short_at : (ps : List Part) → AllShort ps → Short ps
short_at ps s = record { short = go ps s }
  where
    go : (ps : List Part) → AllShort ps → (l : ℕ) → (part_at ps l).length < 2147483648
    go [] s l = omega arith
    go (p ∷ ps) s zero = s.0
    go (p ∷ ps) s (suc l) = go ps s.1 l

-- what is allowed
module _ (low high : ℤ) (fuel : ℕ) (xs : List ℤ) (ps : List Part) (cells : List ℤ) (yes : allowed low high fuel xs ps cells ≡ true) where
  pub fuel_few : fuel ≤ most_fuel
  fuel_few = let a = and_parts (nat_le fuel 1000000) _ yes in leb→le fuel 1000000 (subst T (sym a.0) tt)

  pub parts_short : AllShort ps
  parts_short =
      let a = and_parts (nat_le fuel 1000000) _ yes in
      let b = and_parts (every (in_range low high) xs) _ a.1 in
      let c = and_parts (every (in_range low high) cells) _ b.1 in
      all_short high (length cells) ps c.1

not_gathered : (o : Option (List ℤ)) (ps : List Part) (old new : List ℤ) → Gathered None o ps old new → o ≡ None
not_gathered None ps old new g = refl
not_gathered (Some vs) ps old new g = absurd g

was_gathered : (o : Option (List ℤ)) (ps : List Part) (new : List ℤ) → Gathered (Some tt) o ps [] new → (vs : List ℤ) × (o ≡ Some vs) × (AllShort ps → new ≡ vs)
was_gathered None ps new g = absurd g
was_gathered (Some vs) ps new g = (vs, refl, g)

-- a head, by the entry that was found
module _ (p : Program) (rules : ℕ) (sheet : Sheet) (k : Ready p rules sheet) (f : ℕ) (h : f < rules) (e : Entry) (found : slice_get (all_entries p.records.now) f ≡ Some e) where
  same : (k.heads f h).entry ≡ e
  same = same_Some _ _ (sym (k.heads f h).found ∙ found)

  params_are : map param_of (stretch (params_in p.records.now) e.params.from e.params.to) ≡ (rule_at sheet.rules f).params
  params_are = subst (λ (e : Entry). map param_of (stretch (params_in p.records.now) e.params.from e.params.to) ≡ (rule_at sheet.rules f).params) same (k.heads f h).params

  pub params_few : e.params.to - e.params.from ≤ 12
  params_few = subst (λ (e : Entry). e.params.to - e.params.from ≤ 12) same (k.heads f h).few_params

  needs_are : conditions_in (tables_in p.records.now).items (tables_in p.records.now).conditions e.needs.from e.needs.to ≡ (rule_at sheet.rules f).needs
  needs_are = subst (λ (e : Entry). conditions_in (tables_in p.records.now).items (tables_in p.records.now).conditions e.needs.from e.needs.to ≡ (rule_at sheet.rules f).needs) same (k.heads f h).needs

  pub needs_few : e.needs.to - e.needs.from < 4294967296
  needs_few = subst (λ (e : Entry). e.needs.to - e.needs.from < 4294967296) same (k.heads f h).few_needs

module _ (p : Program) (rules : ℕ) (sheet : Sheet) (k : Ready p rules sheet) (f fuel : ℕ) (xs : List ℤ) (ps : List Part) (cells : List ℤ) where
  abbrev S : Dropped
  S = marked p.dropped.now

  abbrev values : Option (List ℤ)
  values = values_for sheet.rules f xs ps

  abbrev answer : Option (List ℤ) → Answer
  answer o = run_if_callable o sheet S f fuel xs ps cells

  not_callable : values ≡ None → Answered (Err Call) cells cells (answer values)
  not_callable e = subst (λ o. Answered (Err Call) cells cells (answer o)) (sym e) (refl, refl)

  pub no_rule : rules ≤ f → Answered (Err Call) cells cells (answer values)
  no_rule h = not_callable (ap (λ b. cond b (gathered (rule_at sheet.rules f).params xs ps) None) (le-ltb f (length sheet.rules) (let m = k.many in omega (arith, m, h))))

  module _ (h : f < rules) where
    pub no_entry : slice_get (all_entries p.records.now) f ≡ None → Answered (Err Call) cells cells (answer values)
    no_entry e = absurd (none-some _ (sym e ∙ (k.heads f h).found))

    module _ (e : Entry) (found : slice_get (all_entries p.records.now) f ≡ Some e) where
      abbrev taken : Option (List ℤ)
      taken = gathered (map param_of (stretch (params_in p.records.now) e.params.from e.params.to)) xs ps

      values_are : values ≡ taken
      values_are =
          ap (λ b. cond b (gathered (rule_at sheet.rules f).params xs ps) None) (lt-ltb f (length sheet.rules) (let m = k.many in omega (arith, m, h)))
          ∙ ap (λ qs. gathered qs xs ps) (sym (params_are p rules sheet k f h e found))

      pub no_values : (old new : List ℤ) → Gathered None taken ps old new → Answered (Err Call) cells cells (answer values)
      no_values old new g = not_callable (values_are ∙ not_gathered taken ps old new g)

      module _ (old new : List ℤ) (empty : old ≡ []) (g : Gathered (Some tt) taken ps old new) where
        got : (vs : List ℤ) × (taken ≡ Some vs) × (AllShort ps → new ≡ vs)
        got = was_gathered taken ps new (subst (λ old. Gathered (Some tt) taken ps old new) empty g)

        limits_are : allowed p.low p.high fuel xs ps cells ≡ allowed sheet.low sheet.high fuel xs ps cells
        limits_are = ap₂ (λ l h. allowed l h fuel xs ps cells) k.low k.high

        tested : (b : Bool) → allowed p.low p.high fuel xs ps cells ≡ b → answer values ≡ run_if_allowed b sheet S f fuel got.0 ps cells
        tested b a = ap answer (values_are ∙ got.1) ∙ ap (λ b. run_if_allowed b sheet S f fuel got.0 ps cells) (sym limits_are ∙ a)

        pub not_allowed : allowed p.low p.high fuel xs ps cells ≡ false → Answered (Err Input) cells cells (answer values)
        not_allowed a = subst (Answered (Err Input) cells cells) (sym (tested false a)) (refl, refl)

        module _ (a : allowed p.low p.high fuel xs ps cells ≡ true) where
          same_values : new ≡ got.0
          same_values = got.2 (parts_short p.low p.high fuel xs ps cells a)

          abbrev needs : List Condition
          needs = conditions_in (tables_in p.records.now).items (tables_in p.records.now).conditions e.needs.from e.needs.to

          met : (o : Option ℕ) → first_broken 0 new needs ≡ o → answer values ≡ run_if_met o sheet S f fuel got.0 ps cells
          met o b =
              tested true a
              ∙ ap (λ o. run_if_met o sheet S f fuel got.0 ps cells) (ap₂ (λ vs cs. first_broken 0 vs cs) (sym same_values) (sym (needs_are p rules sheet k f h e found)) ∙ b)

          pub unmet : (n : ℕ) → first_broken 0 new needs ≡ Some n → Answered (Err (Needs n)) cells cells (answer values)
          unmet n b = subst (Answered (Err (Needs n)) cells cells) (sym (met (Some n) b)) (refl, refl)

          module _ (b : first_broken 0 new needs ≡ None) where
            abbrev start : State
            start = record { fuel = fuel; cells = cells }

            abbrev ran : Running.Program → Ran ℤ
            ran P = enter P (run P S 2000) f new ps start

            programs : program_of p k.book.bodies ≡ Entering.program_of sheet
            programs =
                ap₂ (λ (l h : ℤ). record { low = l; high = h; bodies = k.book.bodies }) k.low k.high
                ∙ ap (λ bs. record { low = sheet.low; high = sheet.high; bodies = bs }) k.bodies

            run_is : answer values ≡ end_of fuel (rule_in p k.book f new ps start)
            run_is = met None b ∙ ap (λ vs. run_rule sheet S f fuel vs ps cells) (sym same_values) ∙ ap (λ P. end_of fuel (ran P)) (sym programs)

            pub runs : RuleRuns p f new ps fuel cells
            runs = record {
              book = k.book;
              there = (let m = k.as_many in let n = ap length k.bodies in omega (arith, m, n, h));
              tame = record {
                tame = λ w. subst Tamed (run_is ∙ ap (λ o. end_of fuel (record { log = (rule_in p k.book f new ps start).log; outcome = o })) w) (k.inside f fuel xs ps cells);
              };
            }

            pub ends : (end : End) (after : List ℤ) → Answers end after p f new ps fuel cells → Answered (Ok end) cells after (answer values)
            unfolding runs
            ends end after r = subst (Answered (Ok end) cells after) (sym (run_is ∙ r runs)) (refl, refl)
