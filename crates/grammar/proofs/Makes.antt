-- Nodes that are made, and what stands while others are.
use Rattle.std.proofs.Common.{◌≡◌, ℕ, ◌<◌, [], ◌∷◌, ◌++◌, length, Some, Ok, Err, sym, refl, ap, ◌∙◌, ap₂, append-nil, arith, length-append}
use Rattle.letters.specs.declared.token.Token.{Token}
use Rattle.grammar.specs.declared.misplaced.Misplaced.{Misplaced}
use Rattle.grammar.specs.declared.node.Node.{Node}
use Rattle.grammar.specs.declared.node.Node.TheVariants.{NoArgs, Arg}
use Rattle.grammar.specs.Raw.{Expr, Args, none, more}
use Rattle.grammar.specs.Parsers.{P, done, give}
use Rattle.grammar.specs.Sheets.{arg_on}
use Rattle.grammar.specs.Trees.{Part, look_of, grown_expr, grown_args, part_in, raw_at, rule_in}
use Rattle.grammar.specs.Held.{Held, look, sheet, Lasts, Taken, Stands, ArgsStand, Went, Pushed}
use Rattle.grammar.proofs.Laws.{seq-ok, seq-err}
use Rattle.grammar.proofs.Parts.{kept, made, rules-made}

pub same-token : {s s' : Held} → Lasts s s' → (a : ℕ) → look s' a ≡ look s a
same-token h a = ap (λ c. look_of c a) h.same

pub keep-token : {s s' : Held} {a : ℕ} {t : Token} → Lasts s s' → Taken s a t → Taken s' a t
keep-token {a} h g = record { reads = same-token h a ∙ g.reads }

long : {s s' : Held} → (h : Lasts s s') → {p : ℕ} → p < length s.nodes → p < length (s.nodes ++ h.added.0)
long {s} h l = omega (arith, length-append s.nodes h.added.0)

part-kept : {s s' : Held} → (h : Lasts s s') → (p : ℕ) → p < length s.nodes → part_in s'.source (length s'.nodes) s'.nodes p ≡ part_in s.source (length s.nodes) s.nodes p
part-kept {s} h p l = ap₂ (λ c ns. part_in c (length ns) ns p) h.same h.added.1 ∙ kept s.source s.nodes h.added.0 p l (long h l)

below-kept : {s s' : Held} → (h : Lasts s s') → {p : ℕ} → p < length s.nodes → p < length s'.nodes
below-kept h l = let e = ap length h.added.1 in let k = long h l in omega arith

pub keep : {s s' : Held} {p : ℕ} {e : Expr} → Lasts s s' → Stands s p e → Stands s' p e
keep {p} h g = record { below = below-kept h g.below; reads = ap (λ (x : Part). x.expr) (part-kept h p g.below) ∙ g.reads }

pub keep-args : {s s' : Held} {p : ℕ} {xs : Args} → Lasts s s' → ArgsStand s p xs → ArgsStand s' p xs
keep-args {p} h g = record { below = below-kept h g.below; reads = ap (λ (x : Part). x.args) (part-kept h p g.below) ∙ g.reads }

pushed-part : {p : ℕ} {n : Node} {s s' : Held} → Pushed p n s s' → part_in s'.source (length s'.nodes) s'.nodes p ≡ record { expr = grown_expr s.source (part_in s.source (length s.nodes) s.nodes) n; args = grown_args (part_in s.source (length s.nodes) s.nodes) n }
pushed-part {p} {n} {s} {s'} h = (λ i. part_in (h.same i) (length (h.nodes i)) (h.nodes i) (h.here i)) ∙ made s.source s.nodes n

pub pushed-rules : {p : ℕ} {n : Node} {s s' : Held} → Pushed p n s s' → sheet s' ≡ sheet s ++ rule_in s.source (raw_at s.source (length s.nodes) s.nodes) (Some n)
pushed-rules {n} {s} {s'} h = ap₂ (λ c ns. sheet (record { source = c; at = 0; nodes = ns; lender = (0, 0) })) h.same h.nodes ∙ rules-made s.source s.nodes n

pub pushed-lasts : {p : ℕ} {n : Node} {s s' : Held} → Pushed p n s s' → rule_in s.source (raw_at s.source (length s.nodes) s.nodes) (Some n) ≡ [] → Lasts s s'
pushed-lasts {p} {n} {s} h e = record { same = h.same; added = (n ∷ [], h.nodes); rules = pushed-rules h ∙ ap (λ rs. sheet s ++ rs) e ∙ append-nil (sheet s) }

-- an expression's node, no rule's
pub pushes : {e : Expr} {p : ℕ} {n : Node} {s s' : Held} → Pushed p n s s' → rule_in s.source (raw_at s.source (length s.nodes) s.nodes) (Some n) ≡ [] → grown_expr s.source (part_in s.source (length s.nodes) s.nodes) n ≡ e → Went Stands (Ok p) (λ _. give e) s s'
pushes {e} h plain q = record {
  lender = h.lender;
  size = h.size;
  ahead = omega arith;
  told = record {
    val = e;
    rel = record { below = omega arith; reads = ap (λ (x : Part). x.expr) (pushed-part h) ∙ q };
    came = (0, λ f k. ap (done e) (sym h.at));
    lasts = pushed-lasts h plain;
  };
}

pub pushes-args : {xs : Args} {p : ℕ} {n : Node} {s s' : Held} → Pushed p n s s' → rule_in s.source (raw_at s.source (length s.nodes) s.nodes) (Some n) ≡ [] → grown_args (part_in s.source (length s.nodes) s.nodes) n ≡ xs → Went ArgsStand (Ok p) (λ _. give xs) s s'
pushes-args {xs} h plain q = record {
  lender = h.lender;
  size = h.size;
  ahead = omega arith;
  told = record {
    val = xs;
    rel = record { below = omega arith; reads = ap (λ (x : Part). x.args) (pushed-part h) ∙ q };
    came = (0, λ f k. ap (done xs) (sym h.at));
    lasts = pushed-lasts h plain;
  };
}

-- no arguments stand at their node
pub c-none : {p : ℕ} {s s' : Held} → Pushed p NoArgs s s' → ArgsStand s' p none
c-none h = record { below = omega arith; reads = ap (λ (x : Part). x.args) (pushed-part h) }

-- one more argument
pub arg-made : {p : ℕ → P Expr} {xs : Args} {before last at : ℕ} {s s1 s2 : Held} → ArgsStand s before xs → Went Stands (Ok last) p s s1 → Pushed at (Arg before last) s1 s2 → Went ArgsStand (Ok at) (λ f. arg_on (p f) xs) s s2
arg-made h w v = seq-ok _ w (pushes-args v refl (λ i. more ((keep-args w.told.lasts h).reads i) (w.told.rel.reads i)))

pub arg-fails : {p : ℕ → P Expr} (xs : Args) {e : Misplaced} {s s1 : Held} → Went Stands (Err e) p s s1 → Went ArgsStand (Err e) (λ f. arg_on (p f) xs) s s1
arg-fails xs w = seq-err _ w
