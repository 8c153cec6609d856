-- In every text the type of every model is one of the three: no line of a head gives another.
-- Assumes nothing.
use mathlib.Core.Path.{◌≡◌}
use mathlib.Core.Bool.{true, false}
use mathlib.Core.List.{List, [], ◌∷◌}
use Prim.Native.Nat.{ℕ, ◌≤◌, ◌<◌}
use native.Mathlib.Omega.{arith}
use Rattle.base.specs.If.{provided◌then◌else◌}
use Rattle.base.proofs.IfLaws.{by_test}
use Rattle.lex_line.specs.Words.{words, second_of}
use Rattle.line_place.specs.Place as place
use Rattle.line_head.specs.Head.{model_type_of, wrong_head_line, type_line, sgr_line, impedance_line, head_line_of, head_next, new_head}
use Rattle.line_head.specs.declared.Head.{Head}
use Rattle.line_head.specs.declared.HeadLine.{HeadLine}
use Rattle.doc.specs.Lines.{Line, significant, stands_in, up_to}
use Rattle.doc.specs.Document.{Model, head_in, opens_model, in_model, model_of, model_at, document_in, document_of}
use Rattle.doc.specs.Holds.{Each}
use Rattle.doc.proofs.StandsLaws.{each_gather, each_if}
use Rattle.table_layout.specs.Codes.{model_types}

kind_most : (w : List ℕ) → model_type_of w ≤ model_types
unfolding model_type_of
kind_most w =
    by_test (λ (n : ℕ). n ≤ 3) _ _ _ (λ e. omega arith)
    (λ e. by_test (λ (n : ℕ). n ≤ 3) _ _ _ (λ f. omega arith) (λ f. by_test (λ (n : ℕ). n ≤ 3) _ _ _ (λ g. omega arith) (λ g. omega arith)))

-- in a head line the types count from 1, in the table from 0
abbrev Few : HeadLine → Type 0
Few l = l.kind ≤ 3

wrong_few : (says : ℕ) → Few (wrong_head_line says)
unfolding wrong_head_line
wrong_few says = omega arith

type_few : (ws : List (List ℕ)) → Few (type_line ws)
unfolding type_line
type_few ws = by_test Few _ _ _ (λ e. kind_most (second_of ws)) (λ e. wrong_few _)

sgr_few : (ws : List (List ℕ)) → Few (sgr_line ws)
unfolding sgr_line
sgr_few ws = by_test Few _ _ _ (λ e. omega arith) (λ e. wrong_few _)

impedance_few : (content : List ℕ) → Few (impedance_line content)
unfolding impedance_line
impedance_few content = by_test Few _ _ _ (λ e. omega arith) (λ e. wrong_few _)

line_few : (content : List ℕ) → Few (head_line_of content)
unfolding head_line_of
line_few content =
    by_test Few _ _ _ (λ e. type_few (words content))
    (λ e.
    by_test Few _ _ _ (λ f. sgr_few (words content))
    (λ f. by_test Few _ _ _ (λ g. impedance_few content) (λ g. omega arith)))

next_few : (l : HeadLine) (h : Head) → Few l → h.kind ≤ 3 → (head_next l h).kind ≤ 3
unfolding head_next
next_few l h few k = by_test (λ (n : ℕ). n ≤ 3) _ _ _ (λ e. few) (λ e. k)

head_few : (h : Head) (ls : List Line) → h.kind ≤ 3 → (head_in h ls).kind ≤ 3
unfolding head_in
head_few h [] k = k
head_few h (l ∷ ls) k =
    head_few (provided stands_in place.head l then head_next (head_line_of l.content) h else h) ls
    (by_test (λ (x : Head). x.kind ≤ 3) (stands_in place.head l) _ _
    (λ (e : stands_in place.head l ≡ true). next_few (head_line_of l.content) h (line_few l.content) k)
    (λ (e : stands_in place.head l ≡ false). k))

new_few : new_head.kind ≤ 3
unfolding new_head
new_few = omega arith

model_type : (l : Line) (body : List Line) → (model_of l body).type < 3
unfolding model_of
model_type l body =
    let k : (head_in new_head body).kind ≤ 3 = head_few new_head body new_few in
    omega arith

model_at_lem : (l : Line) (ls : List Line) → Each (λ (m : Model). m.type < 3) (model_at l ls)
unfolding model_at
model_at_lem l ls = each_if (opens_model l) _ (λ (e : opens_model l ≡ true). model_type l (up_to in_model ls))

each_line : (ls : List Line) → Each (λ (l : Line). Unit {0}) ls
each_line [] = Each.none
each_line (l ∷ ls) = Each.more tt (each_line ls)

-- "SLM_general, SLM_quiescent, MLM"
pub text_types : (t : List ℕ) → Each (λ (m : Model). m.type < 3) (document_of t).models
unfolding document_of document_in
text_types t =
    each_gather (λ (l : Line). Unit {0}) model_at (λ (l : Line) (ls : List Line) (h : Unit {0}) (hs : Each (λ (x : Line). Unit {0}) ls). model_at_lem l ls)
    (each_line (significant t))
