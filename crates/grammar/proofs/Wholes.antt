-- A whole text.
use Rattle.std.proofs.Common.{◌≡◌, ℕ, ◌≤◌, List, length, take, drop, sym, ap, ◌∙◌, ap₂, subst, arith}
use Rattle.std.proofs.lemmas.List.{length-take-le, take-append-drop}
use Rattle.pile.specs.declared.Pile.{Pile}
use Rattle.pile.specs.Entries.{entries}
use Rattle.grammar.specs.declared.node.Node.{Node}
use Rattle.grammar.specs.Parsers.{done, fault}
use Rattle.grammar.specs.Sheets.{sheet_s}
use Rattle.grammar.specs.Trees.{Source, rules_to}
use Rattle.grammar.specs.Held.{Held, look, sheet, Comes, Failed}
use Rattle.grammar.specs.Parsed.{Sheeted, Faulted, Done}
use Rattle.grammar.proofs.Parts.{rules-front}

rules-take : (s : Source) (k : ℕ) (ns : List Node) → k ≤ length ns → rules_to s (length (take k ns)) (take k ns) ≡ rules_to s k ns
rules-take s k ns h =
    ap (λ j. rules_to s j (take k ns)) (length-take-le k ns h)
    ∙ sym (rules-front s k (take k ns) (drop k ns) (let e = length-take-le k ns h in omega arith))
    ∙ ap (rules_to s k) (take-append-drop k ns)

pub sheeted : (s s' : Held) (p : Pile Node) (k : ℕ) (ns : List Node) → s'.nodes ≡ entries p → p.slots.now ≡ ns → k ≡ length (entries p) → s.at ≡ 0 → Done s s' → Sheeted s.source.tokens s.source.end k ns
sheeted s s' p k ns g e m z d =
    let n = p.len in
    let h : n ≤ length p.slots.now = p.within in
    let l : length (entries p) ≡ n = length-take-le n p.slots.now h in
    let q : sheet s' ≡ rules_to s.source k ns = ap₂ (λ c (ms : List Node). rules_to c (length ms) ms) d.same g ∙ rules-take s.source n p.slots.now h ∙ ap₂ (rules_to s.source) (sym (m ∙ l)) e in
    record { last = d.last; came = subst (λ i. Comes sheet_s (look s) i (done (rules_to s.source k ns) d.last)) z (subst (λ x. Comes sheet_s (look s) s.at (done x d.last)) q d.came); within = subst (λ (ms : List Node). k ≤ length ms) e (omega arith) }

pub faulted : (s : Held) (w : ℕ) → s.at ≡ 0 → Failed w sheet_s s → Faulted s.source.tokens s.source.end w
faulted s w z f = record { faulty = f.faulty; came = subst (λ i. Comes sheet_s (look s) i (fault f.faulty)) z f.came; place = f.place }
