-- Where a line begins and ends, byte by byte.
use Rattle.std.proofs.Common.{◌≡◌, ℕ, zero, suc, ◌+◌, ◌-◌, ◌<◌, ◌≤◌, min, ◌&&◌, eqb, ltb, ◌⊎◌, List, length, get_or, take, sym, refl, ap, subst, inl, inr, arith}
use Rattle.std.specs.List.{suffix_len}
use Rattle.std.proofs.lemmas.List.Sums.{suffix_len-take_yes, suffix_len-take_no, prefix_len-drop_yes, prefix_len-drop_no, prefix_len-drop_all}
use Rattle.std.proofs.lemmas.Bool.{ne_eqb, eq-eqb, not_from_false, not_from_true, cases_eq, cases_lt, cond_both, and_parts, ltb-true, eqb-true}
use Rattle.showing.specs.declared.line.Line.{Line}
use Rattle.showing.specs.Lines.{of_line, start_of, feed_of, shown_to, line_here, line_of, Ends, Stands}

module _ (text : List ℕ) where
  pub start_back : (s m : ℕ) → s ≡ m + 1 → m < length text → (get_or text m 0 ≡ 10 → ⊥) → start_of text s ≡ start_of text m
  start_back s m h k n =
      let q : s - 1 ≡ m = omega arith in
      let e = suffix_len-take_yes of_line text s 0 (omega arith) (omega arith) (not_from_false _ (ne_eqb _ 10 (λ z. n (subst (λ i. get_or text i 0 ≡ 10) q z)))) in
      let f = ap (λ i. suffix_len of_line (take i text)) q in
      omega arith

  pub start-here : (s m : ℕ) → s ≡ m + 1 → m < length text → get_or text m 0 ≡ 10 → start_of text s ≡ s
  start-here s m h k n =
      let q : s - 1 ≡ m = omega arith in
      let e = suffix_len-take_no of_line text s 0 (omega arith) (omega arith) (not_from_true _ (eq-eqb _ 10 (subst (λ i. get_or text i 0 ≡ 10) (sym q) n))) in
      omega arith

  pub feed-on : (f : ℕ) → f < length text → (get_or text f 0 ≡ 10 → ⊥) → feed_of text f ≡ feed_of text (f + 1)
  feed-on f h n = let e = prefix_len-drop_yes of_line text f 0 h (not_from_false _ (ne_eqb _ 10 n)) in omega arith

  pub feed-here : (f : ℕ) → f < length text → get_or text f 0 ≡ 10 → feed_of text f ≡ f
  feed-here f h n = let e = prefix_len-drop_no of_line text f 0 h (not_from_true _ (eq-eqb _ 10 n)) in omega arith

  pub feed-end : (f : ℕ) → length text ≤ f → feed_of text f ≡ f
  feed-end f h = let e = prefix_len-drop_all of_line text f h in omega arith

  start_first : (n : ℕ) → n ≤ length text → (start_of text n ≡ 0) ⊎ (get_or text (start_of text n - 1) 0 ≡ 10)
  start_first zero h = inl (omega arith)
  start_first (suc m) h = elim (cases_eq (get_or text m 0) 10) [
    | inl e ↦ inr (let s = start-here (suc m) m (omega arith) (omega arith) e in let q : m ≡ start_of text (suc m) - 1 = omega arith in subst (λ i. get_or text i 0 ≡ 10) q e)
    | inr n ↦ subst (λ i. (i ≡ 0) ⊎ (get_or text (i - 1) 0 ≡ 10)) (sym (start_back (suc m) m (omega arith) (omega arith) n)) (start_first m (omega arith))
  ]

  start-inside : (n k : ℕ) → n ≤ length text → start_of text n ≤ k → k < n → get_or text k 0 ≡ 10 → ⊥
  start-inside zero k h a b e = omega arith
  start-inside (suc m) k h a b e = elim (cases_eq (get_or text m 0) 10) [
    | inl f ↦ let s = start-here (suc m) m (omega arith) (omega arith) f in omega arith
    | inr n ↦ let s = start_back (suc m) m (omega arith) (omega arith) n in
        elim (cases_eq k m) [ inl q ↦ n (subst (λ i. get_or text i 0 ≡ 10) q e) | inr q ↦ start-inside m k (omega arith) (omega arith) (omega arith) e ]
  ]

  -- the line feed at or after a place, d bytes before the text's end
  record Fed (f : ℕ) : Type 0 where
    within : feed_of text f ≤ length text
    ends : (feed_of text f ≡ length text) ⊎ (get_or text (feed_of text f) 0 ≡ 10)
    inside : (k : ℕ) → f ≤ k → k < feed_of text f → get_or text k 0 ≡ 10 → ⊥

  fed : (d f : ℕ) → f + d ≡ length text → Fed f
  fed zero f h = let e = feed-end f (omega arith) in record { within = omega arith; ends = inl (omega arith); inside = λ k a b _. omega arith }
  fed (suc d) f h = elim (cases_eq (get_or text f 0) 10) [
    | inl q ↦ let e = feed-here f (omega arith) q in record { within = omega arith; ends = inr (subst (λ i. get_or text i 0 ≡ 10) (sym e) q); inside = λ k a b _. omega arith }
    | inr n ↦
        let e = feed-on f (omega arith) n in
        let r = fed d (f + 1) (omega arith) in
        record {
          within = subst (λ i. i ≤ length text) (sym e) r.within;
          ends = subst (λ i. (i ≡ length text) ⊎ (get_or text i 0 ≡ 10)) (sym e) r.ends;
          inside = λ k a b q. elim (cases_eq k f) [ inl z ↦ n (subst (λ i. get_or text i 0 ≡ 10) z q) | inr z ↦ r.inside k (omega arith) (omega arith) q ];
        }
  ]

  -- without a carriage return before the line feed
  record Shown (start feed end : ℕ) : Type 0 where
    reaches : (start ≤ end) × (end ≤ feed) × (feed ≤ end + 1)
    ends : Ends text end

  shown : (start feed : ℕ) → start ≤ feed → (feed ≡ length text) ⊎ (get_or text feed 0 ≡ 10) → Shown start feed (shown_to text start feed)
  shown start feed h f = cond_both (ltb start feed && (ltb feed (length text) && eqb (get_or text (feed - 1) 0) 13)) (feed - 1) feed (Shown start feed)
      (λ t.
      let p = and_parts _ _ t in
      let q = and_parts _ _ p.1 in
      let a = ltb-true start feed p.0 in
      let b = ltb-true feed (length text) q.0 in
      let g : get_or text feed 0 ≡ 10 = elim f [ inl e ↦ absurd (omega arith) | inr e ↦ e ] in
      let n : feed ≡ feed - 1 + 1 = omega arith in
      record { reaches = (omega arith, omega arith, omega arith); ends = inr (inr (eqb-true _ 13 q.1, subst (λ i. get_or text i 0 ≡ 10) n g)) })
      (λ _. record { reaches = (omega arith, omega arith, omega arith); ends = elim f [ inl e ↦ inl e | inr e ↦ inr (inl e) ] })

  stands : (place : ℕ) → place ≤ length text → Stands text place (line_here text place)
  stands place h =
      let f = fed (length text - place) place (omega arith) in
      let s = shown (start_of text place) (feed_of text place) (omega arith) f.ends in
      record {
        number = refl;
        column = omega arith;
        begins = omega arith;
        first = start_first place h;
        before = λ k. start-inside place k h;
        inside = λ k a b e. elim (cases_lt k place) [ inl q ↦ start-inside place k h a q e | inr q ↦ f.inside k q (omega arith) e ];
        reaches = (omega arith, omega arith, omega arith);
        ends = s.ends;
      }

  pub stands-so : (place : ℕ) (line : Line) → line ≡ line_of text place → Stands text (min place (length text)) line
  stands-so place line e = subst (Stands text (min place (length text))) (sym e) (stands (min place (length text)) (omega arith))
