-- Parameters get their quantities one after another, with others still to come.
use Rattle.std.proofs.Common.{◌≡◌, ℕ, zero, suc, ◌+◌, ◌<◌, ◌≤◌, true, ltb, List, [], ◌∷◌, ◌++◌, map, length, Some, None, sym, ap, ◌∙◌, subst, inl, inr, arith, le-leb}
use Rattle.std.proofs.lemmas.Bool.{cases_lt, lt-leb}
use Rattle.std.proofs.lemmas.List.{append-nil, append_assoc, length-append}
use Rattle.std.proofs.lemmas.List.FromFn.{length-map-range_with_len, map-range_with_len_more}
use Rattle.std.proofs.lemmas.Option.{none-some}
use Rattle.std.proofs.ByRecursion.{All-push}
use Rattle.std.specs.List.{range_with_len}
use Rattle.language.specs.declared.refusal.Refusal.{Refusal}
use Rattle.language.specs.declared.refusal.Refusal.TheVariants.{Full}
use Rattle.language.specs.declared.term.Term.{Term}
use Rattle.language.specs.Terms.{fits_term, quantity}
use Rattle.language.specs.Tree.{Param, a_number, a_list, at_lists}
use Rattle.language.specs.Walking.{limit, first_fault}
use Rattle.language.proofs.Fitting.{quantity-fits}
use Rattle.walking.specs.Sides.{Fitting}
use Rattle.walking.specs.Starting.{Declaring, numbers_of, few_params}
use Rattle.walking.proofs.Knowings.{none_left, some_left}

-- the quantities from a number on
abbrev numbers : ℕ → ℕ → List Term
numbers from n = map quantity (range_with_len from n)

numbers-fit : (from n : ℕ) → Fitting (numbers from n)
numbers-fit from zero = tt
numbers-fit from (suc n) = (quantity-fits from, numbers-fit (from + 1) n)

-- quantities were found for some parameters, and these are to come
pub record Started (whole rest : List Param) (n : ℕ) (ts ls : List Term) : Type 0 where
  pub count : length whole ≡ n + length rest
  pub few : n ≤ 16
  pub names : ts ≡ numbers 0 n
  pub lengths : at_lists whole (numbers_of whole) ≡ ls ++ at_lists rest (numbers n (length rest))
  pub short : length ls ≤ n
  pub fits : Fitting ls

pub started_none : (whole : List Param) (ts ls : List Term) → ts ≡ [] → ls ≡ [] → Started whole whole 0 ts ls
started_none whole ts ls a b = record {
  count = omega arith;
  few = omega arith;
  names = a;
  lengths = sym (ap (λ l. l ++ at_lists whole (numbers_of whole)) b);
  short = omega (arith, ap length b);
  fits = subst Fitting (sym b) tt;
}

module _ (whole ps : List Param) (n m : ℕ) (ts us ls : List Term) (t : Term) (h : n < 16) (e : t ≡ quantity n) (f : m ≡ suc n) (g : us ≡ ts ++ t ∷ []) where
  more_names : ts ≡ numbers 0 n → us ≡ numbers 0 m
  more_names q =
      g ∙ ap (λ xs. xs ++ t ∷ []) q ∙ ap (λ x. numbers 0 n ++ x ∷ []) e ∙ sym (map-range_with_len_more quantity 0 n n (omega arith)) ∙ ap (numbers 0) (let k : n + 1 ≡ m = omega (arith, f) in k)

  on : (p : Param) → n + length (p ∷ ps) ≡ m + length ps
  on p = omega (arith, f)

  later : numbers (n + 1) (length ps) ≡ numbers m (length ps)
  later = ap (λ k. numbers k (length ps)) (let k : n + 1 ≡ m = omega (arith, f) in k)

  pub started_number : Started whole (a_number ∷ ps) n ts ls → Started whole ps m us ls
  unfolding at_lists
  started_number s = record {
    count = s.count ∙ on a_number;
    few = omega (arith, f);
    names = more_names s.names;
    lengths = s.lengths ∙ ap (λ xs. ls ++ at_lists ps xs) later;
    short = omega (arith, s.short, f);
    fits = s.fits;
  }

  pub started_list : (ks : List Term) → ks ≡ ls ++ t ∷ [] → Started whole (a_list ∷ ps) n ts ls → Started whole ps m us ks
  unfolding at_lists
  started_list ks k s = record {
    count = s.count ∙ on a_list;
    few = omega (arith, f);
    names = more_names s.names;
    lengths = s.lengths ∙ ap (λ xs. ls ++ quantity n ∷ at_lists ps xs) later ∙ sym (append_assoc ls (quantity n ∷ []) _) ∙ ap (λ x. (ls ++ x ∷ []) ++ at_lists ps (numbers m (length ps))) (sym e) ∙ ap (λ l. l ++ at_lists ps (numbers m (length ps))) (sym k);
    short = omega (arith, s.short, f, ap length k, length-append ls (t ∷ []));
    fits = subst Fitting (sym k) (All-push (λ t. fits_term t ≡ true) ls t s.fits (ap fits_term e ∙ quantity-fits n));
  }

-- all have their quantities
pub started-end : (whole : List Param) (n : ℕ) (ts ls : List Term) → Started whole [] n ts ls → Declaring whole n ts ls
unfolding at_lists
started-end whole n ts ls s =
    let k : n ≡ length whole = omega (arith, s.count) in record {
      next = k;
      names = s.names ∙ ap (numbers 0) k;
      lengths = sym (s.lengths ∙ append-nil ls);
      few = s.few;
      names_fit = subst Fitting (sym s.names) (numbers-fit 0 n);
      lengths_fit = s.fits;
    }

pub few_enough : (ps : List Param) (place : ℕ) → length ps ≤ 16 → first_fault (few_params ps place) ≡ None
unfolding limit first_fault
few_enough ps place h = ap (λ b. first_fault (limit b (Full place))) (le-leb (length ps) 16 h)

too_many : (ps : List Param) (place : ℕ) → 16 < length ps → first_fault (few_params ps place) ≡ Some (Full place)
unfolding limit first_fault
too_many ps place h = ap (λ b. first_fault (limit b (Full place))) (lt-leb (length ps) 16 h)

-- where no quantity is left for a parameter, there are too many
pub started-full : (whole : List Param) (p : Param) (ps : List Param) (n place : ℕ) (ts ls : List Term) (r : Refusal) → Started whole (p ∷ ps) n ts ls → first_fault (limit (ltb n 16) (Full place)) ≡ Some r → first_fault (few_params whole place) ≡ Some r
started-full whole p ps n place ts ls r s e = elim (cases_lt n 16) [
  | inl h ↦ absurd (none-some r (sym (some_left place n h) ∙ e))
  | inr h ↦ too_many whole place (omega (arith, s.count)) ∙ sym (none_left place n h) ∙ e
]

-- a quantity that was found is one of the sixteen
pub left_some : (place n : ℕ) → first_fault (limit (ltb n 16) (Full place)) ≡ None → n < 16
left_some place n e = elim (cases_lt n 16) [ inl h ↦ h | inr h ↦ absurd (none-some (Full place) (sym e ∙ none_left place n h)) ]

-- and so there is room for one name more, and for one length more
pub names_room : (whole ps : List Param) (n : ℕ) (ts ls : List Term) → Started whole ps n ts ls → n < 16 → length ts < 16
names_room whole ps n ts ls s h = omega (arith, ap length s.names, length-map-range_with_len quantity 0 n)
