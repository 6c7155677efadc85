-- What is owed, as steps of a rule's walk.
use Rattle.std.proofs.Common.{◌≡◌, ℕ, List, Ok, Err, IfOk, Result, sym, refl, ap, ◌∙◌, subst, ⊎_elim, arith}
use Rattle.std.proofs.lemmas.List.{length-set}
use Rattle.rows.specs.declared.row.Row.{Row}
use Rattle.language.specs.declared.refusal.Refusal.{Refusal}
use Rattle.language.specs.declared.term.Term.{Term}
use Rattle.language.specs.Comparing.{conditions_rows}
use Rattle.language.specs.Walking.{Owing, Obligation, owe_all, counted}
use Rattle.records.specs.declared.laid.Laid.{Laid}
use Rattle.records.specs.declared.node.Node.{Node}
use Rattle.records.specs.declared.stretch.Stretch.{Stretch}
use Rattle.records.specs.Columns.{Columns}
use Rattle.records.specs.Laying.{columns_of, records_of, owed_of}
use Rattle.records.specs.Owing.{OwesAll}
use Rattle.records.specs.Sound.{Sound}
use Rattle.records.proofs.Replacing.{set_elsewhere}
use Rattle.walking.specs.declared.debts.Debts.{Debts}
use Rattle.walking.specs.declared.walker.Walker.{Walker}
use Rattle.walking.specs.Inferring.{listed_in}
use Rattle.walking.specs.Keeping.{DebtsKept, with_node}
use Rattle.walking.specs.Owing.{Pays, Paid, checks}
use Rattle.walking.specs.Sides.{rows_in}
use Rattle.walking.specs.Stepping.{Sure, Kept, Within, Owed, Touching, stand_of}
use Rattle.walking.proofs.Stepping.{step-pays, kept-none}

-- the walker with other debts
abbrev pub with_debts : Walker → Debts → Walker
with_debts w d = record { debts = record w.debts { now = d }; facts = w.facts; names = w.names; lengths = w.lengths; next = w.next }

kept-debts : (w : Walker) (d : Debts) → Sure w → DebtsKept w.debts.now d → Sound (columns_of d.tables.now) → Kept w (with_debts w d)
kept-debts w d s k c = record { scope = refl; names_room = refl; lender = k.lender; debts = refl; facts = (kept-none w s).facts; sure = record { sound = c; names = s.names; lengths = s.lengths } }

sound-still : (w : Walker) (d : Debts) → Sure w → columns_of d.tables.now ≡ columns_of w.debts.now.tables.now → Sound (columns_of d.tables.now)
sound-still w d s e = subst Sound (sym e) s.sound

module _ (w : Walker) (s : Sure w) (d : Debts) (k : DebtsKept w.debts.now d) where
  pub owed : (r : Result (Unit {0}) Refusal) (o : Owing) → Paid r o w.debts.now.tables.now d.tables.now → Owed r o w (with_debts w d)
  owed (Ok u) o p = λ lo hi. step-pays lo hi o (counted (stand_of w) o.count) w (with_debts w d) p (kept-debts w d s k (sound-still w d s p.columns)) (ap (counted (stand_of w)) p.count)
  owed (Err r) o p = p.fault

  pub owed-kept : (r : Result (Unit {0}) Refusal) (o : Owing) → Paid r o w.debts.now.tables.now d.tables.now → IfOk r (λ t. Kept w (with_debts w d))
  owed-kept (Ok u) o p = kept-debts w d s k (sound-still w d s p.columns)
  owed-kept (Err r) o p = tt

-- rows of conditions that are owed with these facts under these terms
pub owed_under : (r : Result (Unit {0}) Refusal) (place : ℕ) (fs gs : List Row) (a b : Laid) (ts us : List Term) (t u : Term) (l : Stretch) → gs ≡ fs → us ≡ ts → u ≡ t → Paid r (owe_all place gs (owed_of a) (rows_in (columns_of a) us u l.from l.to)) a b → Paid r (owe_all place fs (owed_of a) (conditions_rows ts t (listed_in (columns_of a) l))) a b
unfolding rows_in
owed_under r place fs gs a b ts us t u l g e f p =
    subst (λ (x : Term). Paid r (owe_all place fs (owed_of a) (conditions_rows ts x (listed_in (columns_of a) l))) a b) f
    (subst (λ (xs : List Term). Paid r (owe_all place fs (owed_of a) (conditions_rows xs u (listed_in (columns_of a) l))) a b) e
    (subst (λ (xs : List Row). Paid r (owe_all place xs (owed_of a) (conditions_rows us u (listed_in (columns_of a) l))) a b) g p))

-- a node is another afterwards
module _ (w : Walker) (s : Sure w) (d e : Debts) (k : DebtsKept w.debts.now d) (l : DebtsKept d e) (at : ℕ) (node : Node) (o : Owing) (p : Pays o w.debts.now.tables.now d.tables.now)
    (held : columns_of e.tables.now ≡ with_node (columns_of d.tables.now) at node) (count : owed_of e.tables.now ≡ owed_of d.tables.now) (owes : (os : List Obligation) → OwesAll (records_of d.tables.now) os → OwesAll (records_of e.tables.now) os) where
  now : columns_of e.tables.now ≡ with_node (columns_of w.debts.now.tables.now) at node
  now = held ∙ ap (λ (c : Columns). with_node c at node) p.columns

  sound-now : Sound (columns_of e.tables.now)
  sound-now = subst Sound (sym now) (record { items = s.sound.items; sides = s.sound.sides })

  pub touched-kept : Kept w (with_debts w e)
  touched-kept = record { scope = refl; names_room = refl; lender = l.lender ∙ k.lender; debts = refl; facts = (kept-none w s).facts; sure = record { sound = sound-now; names = s.names; lengths = s.lengths } }

  within-at : Within at at (columns_of w.debts.now.tables.now) (columns_of e.tables.now)
  within-at =
      subst (λ (c : Columns). Within at at (columns_of w.debts.now.tables.now) c) (sym now) (record {
        nodes = λ j x. set_elsewhere (columns_of w.debts.now.tables.now).nodes.entries at node j (⊎_elim (λ h z. let no : ⊥ = omega (arith, h, z) in no) (λ h z. let no : ⊥ = omega (arith, h, z) in no) x);
        count = length-set (columns_of w.debts.now.tables.now).nodes.entries at node;
        rest = refl;
      })

  pub touching : Touching at node o w (with_debts w e)
  touching = record {
    step = record {
      faultless = p.faultless;
      stand = ap (counted (stand_of w)) (count ∙ p.count);
      kept = touched-kept;
      columns = within-at;
      number = count ∙ p.number;
      owes = λ os h x. owes _ (p.owes os h x);
    };
    nodes = ap (λ (c : Columns). c.nodes.entries) now;
  }

-- checks that are owed with these facts of an index of a list of this length
pub checks_under : (r : Result (Unit {0}) Refusal) (place work : ℕ) (fs gs : List Row) (a b : Laid) (index t u : Term) → gs ≡ fs → u ≡ t → Paid r (checks place work gs (owed_of a) index u) a b → Paid r (checks place work fs (owed_of a) index t) a b
checks_under r place work fs gs a b index t u g e p =
    subst (λ (x : Term). Paid r (checks place work fs (owed_of a) index x) a b) e (subst (λ (xs : List Row). Paid r (checks place work xs (owed_of a) index u) a b) g p)
