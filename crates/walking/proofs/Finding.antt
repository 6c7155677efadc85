-- Terms that are found without a change of nodes, as steps of a rule's walk: the next quantity, and the conditions that are facts of it.
use Rattle.std.proofs.Common.{◌≡◌, ℕ, ltb, true, List, [], ◌++◌, Some, None, Ok, Err, IfOk, Result, Option, sym, refl, ap, ◌∙◌, subst, ap₂}
use Rattle.rows.specs.declared.row.Row.{Row}
use Rattle.language.specs.declared.refusal.Refusal.{Refusal}
use Rattle.language.specs.declared.refusal.Refusal.TheVariants.{Full}
use Rattle.language.specs.declared.term.Term.{Term}
use Rattle.language.specs.Limits.{quantities}
use Rattle.language.specs.Terms.{quantity, fits_term}
use Rattle.language.specs.Tree as Tree
use Rattle.language.specs.Walking.{Known, limit, assume_all, fresh, fresh_with, or_fresh, first_fault, obligations_of}
use Rattle.language.proofs.Fitting.{quantity-fits}
use Rattle.language.proofs.Laws.{fault-first, fault-next}
use Rattle.pile.specs.Entries.{entries}
use Rattle.records.specs.declared.laid.Laid.{Laid}
use Rattle.records.specs.declared.stretch.Stretch.{Stretch}
use Rattle.records.specs.Laying.{columns_of}
use Rattle.walking.specs.declared.facts.Facts.{Facts}
use Rattle.walking.specs.declared.walker.Walker.{Walker}
use Rattle.walking.specs.Inferring.{listed_in}
use Rattle.walking.specs.Knowing.{Fresh, Took}
use Rattle.walking.specs.Stepping.{Kept, Sure, Finds, Finding, facts_of, stand_of}
use Rattle.walking.proofs.Noting.{limit-owes, all-owes, all-more}
use Rattle.walking.proofs.Owings.{owed-append}
use Rattle.walking.proofs.Stepping.{step-quiet, kept-none}

-- the walker with another next quantity and other facts
abbrev pub with_next : Walker → ℕ → Facts → Walker
with_next w n f = record { debts = w.debts; facts = record w.facts { now = f }; names = w.names; lengths = w.lengths; next = n }

pub kept-next : (w : Walker) (n : ℕ) (f : Facts) → Sure w → ((more : List Row) × (entries f.pile ≡ facts_of w ++ more)) → Kept w (with_next w n f)
kept-next w n f s m = record { scope = refl; names_room = refl; lender = refl; debts = refl; facts = m; sure = record { sound = s.sound; names = s.names; lengths = s.lengths } }

module _ (place : ℕ) (w : Walker) (s : Sure w) where
  pub found : (r : Result Term Refusal) (n : ℕ) → Fresh r place w.next n → Finds r (fresh place (stand_of w) []) w (with_next w n w.facts.now)
  unfolding fresh
  found (Ok t) n f = record {
    term = f.0;
    step = λ lo hi. step-quiet lo hi _ _ w (with_next w n w.facts.now) refl (kept-next w n w.facts.now s (kept-none w s).facts) f.2 (limit-owes (ltb w.next quantities) (Full place)) (ap (λ m. record { next = m; facts = (stand_of w).facts; count = (stand_of w).count }) f.1);
  }
  found (Err r) n f = f.0

  pub found-kept : (r : Result Term Refusal) (n : ℕ) → Fresh r place w.next n → IfOk r (λ t. Kept w (with_next w n w.facts.now))
  found-kept (Ok t) n f = kept-next w n w.facts.now s (kept-none w s).facts
  found-kept (Err r) n f = tt

  pub found-fits : (r : Result Term Refusal) (n : ℕ) → Fresh r place w.next n → IfOk r (λ t. fits_term t ≡ true)
  found-fits (Ok t) n f = ap fits_term f.0 ∙ quantity-fits w.next
  found-fits (Err r) n f = tt

  -- the next quantity, then conditions
  module _ (ts : List Term) (cs : List Tree.Condition) (t : Term) (n : ℕ) (fr : Fresh (Ok t) place w.next n) (f : Facts) where
    abbrev pub known : Term → Known
    known r = assume_all (λ c. place) ts r (facts_of w) cs

    pub more-known : Took (Ok tt) (known t) (facts_of w) (entries f.pile) → (more : List Row) × (entries f.pile ≡ facts_of w ++ more)
    more-known k = let m = all-more (λ c. place) ts t (facts_of w) cs in (m.0, k.1 ∙ m.1)

    pub found-with : Took (Ok tt) (known t) (facts_of w) (entries f.pile) → Finding t (fresh_with place ts cs (stand_of w) []) w (with_next w n f)
    unfolding fresh_with fresh
    found-with k = record {
      term = fr.0;
      step = λ lo hi.
          let q : known t ≡ known (quantity w.next) = ap known fr.0 in
          let l = limit (ltb w.next quantities) (Full place) in
          step-quiet lo hi (l ++ (known (quantity w.next)).notes) _ w (with_next w n f) refl (kept-next w n f s (more-known k))
          (fault-next l (known (quantity w.next)).notes fr.2 ∙ ap (λ (x : Known). first_fault x.notes) (sym q) ∙ k.0)
          (owed-append l (known (quantity w.next)).notes ∙ ap₂ (λ xs ys. xs ++ ys) (limit-owes (ltb w.next quantities) (Full place)) (all-owes (λ c. place) ts (quantity w.next) (facts_of w) cs))
          (ap₂ (λ m xs. record { next = m; facts = xs; count = (stand_of w).count }) fr.1 (k.1 ∙ ap (λ (x : Known). x.facts) q));
    }

    pub refused-with : (r : Refusal) → first_fault (known t).notes ≡ Some r → first_fault (fresh_with place ts cs (stand_of w) []).notes ≡ Some r
    unfolding fresh_with fresh
    refused-with r e =
        let l = limit (ltb w.next quantities) (Full place) in
        fault-next l (known (quantity w.next)).notes fr.2 ∙ ap (λ (u : Term). first_fault (known u).notes) (sym fr.0) ∙ e

  pub none-with : (ts : List Term) (cs : List Tree.Condition) (r : Refusal) → first_fault (limit (ltb w.next quantities) (Full place)) ≡ Some r → first_fault (fresh_with place ts cs (stand_of w) []).notes ≡ Some r
  unfolding fresh_with fresh
  none-with ts cs r e = fault-first (limit (ltb w.next quantities) (Full place)) _ r e

-- a term that was worked out stands as it is
module _ (place : ℕ) (w : Walker) where
  here : Sure w → (t : Term) → Finding t (or_fresh place (Some t) (stand_of w) []) w w
  unfolding or_fresh first_fault obligations_of
  here s t = record { term = refl; step = λ lo hi. step-quiet lo hi [] (stand_of w) w w refl (kept-none w s) refl refl refl }

  else : (r : Result Term Refusal) (v : Walker) → Finds r (fresh place (stand_of w) []) w v → Finds r (or_fresh place None (stand_of w) []) w v
  unfolding or_fresh
  else r v f = f

  pub worked-found : Sure w → (t : Term) (o : Option Term) → Some t ≡ o → Finding t (or_fresh place o (stand_of w) []) w w
  worked-found s t o e = subst (λ (x : Option Term). Finding t (or_fresh place x (stand_of w) []) w w) e (here s t)

  pub none-found : (r : Result Term Refusal) (v : Walker) (o : Option Term) → None ≡ o → Finds r (fresh place (stand_of w) []) w v → Finds r (or_fresh place o (stand_of w) []) w v
  none-found r v o e f = subst (λ (x : Option Term). Finds r (or_fresh place x (stand_of w) []) w v) e (else r v f)

-- conditions that were taken under these terms and from these tables
pub under : (r : Result (Unit {0}) Refusal) (place : ℕ) (ts us : List Term) (t : Term) (a b : Laid) (l : Stretch) (fs after : List Row) → us ≡ ts → b ≡ a → Took r (assume_all (λ c. place) us t fs (listed_in (columns_of b) l)) fs after → Took r (assume_all (λ c. place) ts t fs (listed_in (columns_of a) l)) fs after
under r place ts us t a b l fs after e f k =
    subst (λ (x : Laid). Took r (assume_all (λ c. place) ts t fs (listed_in (columns_of x) l)) fs after) f
    (subst (λ (xs : List Term). Took r (assume_all (λ c. place) xs t fs (listed_in (columns_of b) l)) fs after) e k)
