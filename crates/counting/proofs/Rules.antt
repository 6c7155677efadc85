-- The rules of a sheet one after another: their heads, and how many there are.
use Rattle.std.proofs.Common.{◌≡◌, ℕ, zero, suc, ◌+◌, ◌<◌, ◌≤◌, true, false, List, [], ◌∷◌, ◌++◌, length, Some, None, map, Option, sym, refl, ap, ◌∙◌, inl, inr, arith}
use Rattle.std.proofs.lemmas.Bool.{cases_lt}
use Rattle.std.proofs.lemmas.List.{append_assoc, append-nil, length-map, map-append}
use Rattle.std.proofs.lemmas.Option.{slice_get_past}
use Rattle.std.specs.List.{slice_get, range_with_len, filter_map, cons_option}
use Rattle.std.specs.Option.{option_map}
use Rattle.std.proofs.lemmas.List.Elements.{filter_map-append}
use Rattle.std.proofs.lemmas.Option.{slice_get-map}
use Rattle.grammar.specs.declared.node.Node.{Node}
use Rattle.grammar.specs.Raw as Raw
use Rattle.grammar.specs.Trees.{Source, look_of, raw_at, rule_in, rules_to}
use Rattle.naming.specs.declared.written.Written.{Written}
use Rattle.naming.specs.declared.taken.Ruled.{Ruled}
use Rattle.naming.specs.Calls.{ruled_of}
use Rattle.naming.specs.Sources.{source_of, node_in, rules_of}
use Rattle.naming.proofs.Grown.{rule-here, rule-not}
use Rattle.records.proofs.Standing.{nth-front, nth_end}
use Rattle.naming.specs.Least.{merged, least}
use Rattle.naming.proofs.Smallest.{least-both}
use Rattle.counting.specs.Counts.{head_over, heads_over, keywords, listed, places_of, rules_over}

pub least-listed : (o : Option ℕ) → o ≡ least (listed o)
unfolding least
least-listed None = refl
least-listed (Some p) = refl

heads-append : (xs ys : List Raw.Rule) → heads_over (xs ++ ys) ≡ heads_over xs ++ heads_over ys
unfolding heads_over
heads-append [] ys = refl
heads-append (x ∷ xs) ys = ap (λ zs. head_over x.params ++ zs) (heads-append xs ys) ∙ sym (append_assoc (head_over x.params) (heads_over xs) (heads_over ys))

pub heads-first : (s : Source) (ns : List Node) → None ≡ least (heads_over (rules_to s 0 ns))
unfolding rules_to heads_over least
heads-first s ns = refl

pub heads-next : (s : Source) (ns : List Node) (at : ℕ) (a b r : Option ℕ) → a ≡ least (heads_over (rules_to s at ns)) → b ≡ least (heads_over (rule_in s (raw_at s at ns) (slice_get ns at))) → r ≡ merged a b → r ≡ least (heads_over (rules_to s (at + 1) ns))
unfolding rules_to
heads-next s ns at a b r e f m =
    least-both (heads_over (rules_to s at ns)) (heads_over (rule_in s (raw_at s at ns) (slice_get ns at))) m e f
    ∙ ap least (sym (heads-append (rules_to s at ns) (rule_in s (raw_at s at ns) (slice_get ns at)))) ∙ ap (λ n. least (heads_over (rules_to s n ns))) step-on
  where
    step-on : suc at ≡ at + 1
    step-on = omega arith

pub head-not : (rs : List Raw.Rule) → rs ≡ [] → None ≡ least (heads_over rs)
unfolding heads_over least
head-not rs e = sym (ap (λ xs. least (heads_over xs)) e)

pub head-here : (rs : List Raw.Rule) (x : Raw.Rule) (a b r : Option ℕ) → rs ≡ x ∷ [] → a ≡ slice_get (places_of true x.params) 4 → b ≡ slice_get (places_of false x.params) 8 → r ≡ merged a b → r ≡ least (heads_over rs)
unfolding heads_over
head-here rs x a b r e f g m =
    let lists = listed (slice_get (places_of true x.params) 4) in
    let numbers = listed (slice_get (places_of false x.params) 8) in
    least-both lists numbers m (f ∙ least-listed (slice_get (places_of true x.params) 4)) (g ∙ least-listed (slice_get (places_of false x.params) 8))
    ∙ ap least (sym (append-nil (lists ++ numbers))) ∙ ap (λ xs. least (heads_over xs)) (sym e)

rules-suc : (s : Source) (ns : List Node) (at : ℕ) → rules_to s (suc at) ns ≡ rules_to s at ns ++ rule_in s (raw_at s at ns) (slice_get ns at)
unfolding rules_to
rules-suc s ns at = refl

keywords-suc : (s : Source) (ns : List Node) (at : ℕ) → keywords (rules_to s (suc at) ns) ≡ keywords (rules_to s at ns) ++ keywords (rule_in s (raw_at s at ns) (slice_get ns at))
keywords-suc s ns at = ap keywords (rules-suc s ns at) ∙ map-append (λ (r : Raw.Rule). r.keyword.place) (rules_to s at ns) (rule_in s (raw_at s at ns) (slice_get ns at))

keywords-front : (s : Source) (ns : List Node) (p i k n : ℕ) → k ≤ n → slice_get (keywords (rules_to s k ns)) i ≡ Some p → slice_get (keywords (rules_to s n ns)) i ≡ Some p
keywords-front s ns p i k zero h e = let z : 0 ≡ k = omega arith in ap (λ m. slice_get (keywords (rules_to s m ns)) i) z ∙ e
keywords-front s ns p i k (suc n) h e = elim (cases_lt n k) [
  | inl l ↦ let z : suc n ≡ k = omega arith in ap (λ m. slice_get (keywords (rules_to s m ns)) i) z ∙ e
  | inr l ↦ ap (λ ps. slice_get ps i) (keywords-suc s ns n) ∙ nth-front (keywords (rules_to s n ns)) (keywords (rule_in s (raw_at s n ns) (slice_get ns n))) i p (keywords-front s ns p i k n l e)
]

-- the rule after 32 others
pub rules-past : (s : Source) (ns : List Node) (at n : ℕ) (x : Raw.Rule) → rule_in s (raw_at s at ns) (slice_get ns at) ≡ x ∷ [] → length (rules_to s at ns) ≡ 32 → at < n → Some x.keyword.place ≡ least (rules_over (rules_to s n ns))
unfolding rules_over
rules-past s ns at n x e few h =
    let ps = keywords (rules_to s at ns) in
    let k : length ps ≡ 32 = length-map (rules_to s at ns) (λ (r : Raw.Rule). r.keyword.place) ∙ few in
    let here : slice_get (keywords (rules_to s (suc at) ns)) 32 ≡ Some x.keyword.place =
    ap (λ qs. slice_get qs 32) (keywords-suc s ns at ∙ ap (λ rs. ps ++ keywords rs) e) ∙ ap (λ i. slice_get (ps ++ x.keyword.place ∷ []) i) (sym k) ∙ nth_end ps x.keyword.place in
    sym (ap (λ o. least (listed o)) (keywords-front s ns x.keyword.place 32 (suc at) n (omega arith) here) ∙ sym (least-listed (Some x.keyword.place)))

range_snoc : (a n : ℕ) → range_with_len a (suc n) ≡ range_with_len a n ++ (a + n) ∷ []
range_snoc a zero = ap (λ k. k ∷ []) (omega arith)
range_snoc a (suc n) = ap (λ xs. a ∷ xs) (range_snoc (a + 1) n ∙ ap (λ k. range_with_len (a + 1) n ++ k ∷ []) (omega arith))

-- where a rule's keyword stands
abbrev pub keyword_place : Written → Ruled → ℕ
keyword_place w k = (look_of (source_of w) k.keyword).place

-- the rules found at the positions below one, by the places of their keywords
found_to : (w : Written) (n : ℕ) → map (keyword_place w) (filter_map (λ at. ruled_of (node_in (length w.nodes.now) w.nodes.now at)) (range_with_len 0 n)) ≡ keywords (rules_to (source_of w) n w.nodes.now)
unfolding rules_to
found_to w zero = refl
found_to w (suc n) =
    let h : ℕ → Option Ruled = λ at. ruled_of (node_in (length w.nodes.now) w.nodes.now at) in
    ap (λ xs. map (keyword_place w) (filter_map h xs)) (range_snoc 0 n ∙ ap (λ k. range_with_len 0 n ++ k ∷ []) z)
    ∙ ap (map (keyword_place w)) (filter_map-append h (range_with_len 0 n) (n ∷ [])) ∙ map-append (keyword_place w) (filter_map h (range_with_len 0 n)) (filter_map h (n ∷ []))
    ∙ ap (λ xs. xs ++ map (keyword_place w) (filter_map h (n ∷ []))) (found_to w n) ∙ ap (λ xs. keywords (rules_to (source_of w) n w.nodes.now) ++ xs) (one (h n) refl) ∙ sym (keywords-suc (source_of w) w.nodes.now n)
  where
    z : 0 + n ≡ n
    z = omega arith

    one : (o : Option Ruled) → o ≡ ruled_of (node_in (length w.nodes.now) w.nodes.now n) → map (keyword_place w) (cons_option o []) ≡ keywords (rule_in (source_of w) (raw_at (source_of w) n w.nodes.now) (slice_get w.nodes.now n))
    one None e = ap keywords (sym (rule-not (source_of w) w.nodes.now n e))
    one (Some k) e = ap keywords (sym (rule-here (source_of w) w.nodes.now n k e))

-- the rule after 32 others, by its keyword, is the first too many
pub rules_found : (w : Written) (o : Option Ruled) → option_map (λ (k : Ruled). k) o ≡ slice_get (filter_map (λ at. ruled_of (node_in (length w.nodes.now) w.nodes.now at)) (range_with_len 0 (length w.nodes.now))) 32 → option_map (keyword_place w) o ≡ least (rules_over (rules_of w))
unfolding rules_over
rules_found w o e =
    let found = filter_map (λ at. ruled_of (node_in (length w.nodes.now) w.nodes.now at)) (range_with_len 0 (length w.nodes.now)) in
    same o ∙ ap (option_map (keyword_place w)) e ∙ sym (slice_get-map (keyword_place w) found 32) ∙ ap (λ ps. slice_get ps 32) (found_to w (length w.nodes.now)) ∙ least-listed _
  where
    same : (p : Option Ruled) → option_map (keyword_place w) p ≡ option_map (keyword_place w) (option_map (λ (k : Ruled). k) p)
    same None = refl
    same (Some k) = refl

pub rules-few : (rs : List Raw.Rule) → length rs ≤ 32 → None ≡ least (rules_over rs)
unfolding rules_over
rules-few rs h =
    let k = length-map rs (λ (r : Raw.Rule). r.keyword.place) in
    least-listed None ∙ ap (λ o. least (listed o)) (sym (slice_get_past (keywords rs) 32 (omega arith)))
