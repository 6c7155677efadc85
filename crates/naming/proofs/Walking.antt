-- How the faults of parts come together.
use Rattle.std.proofs.Common.{◌≡◌, ℕ, ◌+◌, List, [], ◌∷◌, ◌++◌, length, take, drop, is_some, Some, None, Option, sym, refl, ap, ◌∙◌}
use Rattle.std.proofs.lemmas.List.{take_at, drop-drop}
use Rattle.std.specs.List.{slice_get}
use Rattle.letters.specs.declared.token.Token.{Token}
use Rattle.grammar.specs.declared.node.Node.{Node}
use Rattle.grammar.specs.Raw as Raw
use Rattle.grammar.specs.Raw.{none, more}
use Rattle.grammar.specs.Trees.{Part, look_of, grown, part_in, raw_at, args_at}
use Rattle.pile.specs.declared.Pile.{Pile}
use Rattle.pile.specs.Entries.{entries, room}
use Rattle.naming.specs.declared.written.Written.{Written}
use Rattle.naming.specs.Calls.{arg_fault}
use Rattle.naming.specs.Faults.{expr_faults, args_faults, arg_faults, length_at}
use Rattle.naming.specs.Least.{merged, least}
use Rattle.naming.specs.Reaches.{Went, scope_of, sheet_of}
use Rattle.naming.specs.Scopes.{Scope, naming}
use Rattle.naming.specs.Sources.{source_of, node_in}
use Rattle.naming.specs.Walks.{expr_at, arguments_at}
use Rattle.naming.proofs.Called.{arg-least, nth_drop}
use Rattle.grammar.proofs.Parts.{step}
use Rattle.naming.proofs.Scoping.{name-pushed}
use Rattle.naming.proofs.Smallest.{least-both}

-- what looks at the names and changes nothing
pub still : (F : List ℕ → List ℕ) (r : Option ℕ) (p : Pile ℕ) → r ≡ least (F (entries p)) → Went r F p p
still F r p e = record { told = e; kept = refl; roomy = refl }

pub same-faults : (F G : List ℕ → List ℕ) (r : Option ℕ) (p q : Pile ℕ) → ((ns : List ℕ) → F ns ≡ G ns) → Went r G p q → Went r F p q
same-faults F G r p q e w = record { told = w.told ∙ ap least (sym (e (entries p))); kept = w.kept; roomy = w.roomy }

-- one after the other
pub both : (F G : List ℕ → List ℕ) {a b r : Option ℕ} {p q s : Pile ℕ} → r ≡ merged a b → Went a F p q → Went b G q s → Went r (λ ns. F ns ++ G ns) p s
both F G {p = p} m v w = record {
  told = least-both (F (entries p)) (G (entries p)) m v.told (w.told ∙ ap (λ ns. least (G ns)) v.kept);
  kept = w.kept ∙ v.kept;
  roomy = w.roomy ∙ v.roomy;
}

-- from the faults of what is grown there
pub expr-at : (w : Written) (lists : List ℕ) (top at : ℕ) (o : Option Node) {r : Option ℕ} {p q : Pile ℕ} → o ≡ node_in top w.nodes.now at → Went r (λ ns. expr_faults (sheet_of w) (scope_of w ns lists) (grown (source_of w) (part_in (source_of w) at w.nodes.now) o).expr) p q → Went r (expr_at w lists top at) p q
expr-at w lists top at o {r} {p} {q} e v =
    same-faults (expr_at w lists top at) _ r p q (λ ns. ap (λ (x : Part). expr_faults (sheet_of w) (scope_of w ns lists) x.expr) (step (source_of w) top w.nodes.now at ∙ ap (grown (source_of w) (part_in (source_of w) at w.nodes.now)) (sym e))) v

-- under one more name
pub under : (w : Written) (lists : List ℕ) (n at b mark : ℕ) {r : Option ℕ} {p p1 p2 q : Pile ℕ} → mark ≡ length (entries p) → entries p1 ≡ entries p ++ n ∷ [] → room p1 ≡ room p → Went r (expr_at w lists at b) p1 p2 → entries q ≡ take mark (entries p2) → room q ≡ room p2
    → Went r (λ ns. expr_faults (sheet_of w) (naming (scope_of w ns lists) (look_of (source_of w) n)) (raw_at (source_of w) at w.nodes.now b)) p q
under w lists n at b mark {p = p} {p1 = p1} {p2 = p2} m e k v f g = record {
  told = v.told ∙ ap (λ (Γ : Scope). least (expr_faults (sheet_of w) Γ (raw_at (source_of w) at w.nodes.now b))) (name-pushed w (entries p) (entries p1) lists n e);
  kept = f ∙ ap (take mark) (v.kept ∙ e) ∙ take_at (entries p) (n ∷ []) mark (sym m);
  roomy = g ∙ v.roomy ∙ k;
}

-- an argument, given what is inside it
pub arg-went : (wants : Option Token) (bare : Option ℕ) (place : ℕ) (G : List ℕ → List ℕ) {inside r : Option ℕ} {p q : Pile ℕ} → r ≡ arg_fault (is_some wants) (is_some bare) place inside → Went inside G p q → Went r (λ ns. arg_faults wants bare place (G ns)) p q
arg-went wants bare place G {p = p} e v = record {
  told = e ∙ ap (arg_fault (is_some wants) (is_some bare) place) v.told ∙ arg-least wants bare place (G (entries p));
  kept = v.kept;
  roomy = v.roomy;
}

pub args_at-law : (w : Written) (lists : List ℕ) (ps : List Raw.Param) (top at : ℕ) (es : Raw.Args) {r : Option ℕ} {p q : Pile ℕ} → args_at (source_of w) top w.nodes.now at ≡ es → Went r (λ ns. args_faults (sheet_of w) (scope_of w ns lists) ps es) p q → Went r (arguments_at w lists ps top at) p q
args_at-law w lists ps top at es {r} {p} {q} e v = same-faults (arguments_at w lists ps top at) _ r p q (λ ns. ap (args_faults (sheet_of w) (scope_of w ns lists) ps) e) v

pub length_from : (qs ps : List Raw.Param) (k : ℕ) → qs ≡ drop k ps → length_at qs 0 ≡ length_at ps k
length_from qs ps k e = ap (λ (o : Option Raw.Param). elim o [ None ↦ None | Some p ↦ p.length ]) (ap (λ xs. slice_get xs 0) e ∙ nth_drop ps k)

pub drop-next : (qs rs ps : List Raw.Param) (k : ℕ) → qs ≡ drop k ps → rs ≡ drop 1 qs → rs ≡ drop (k + 1) ps
drop-next qs rs ps k e f = f ∙ ap (drop 1) e ∙ drop-drop 1 k ps
