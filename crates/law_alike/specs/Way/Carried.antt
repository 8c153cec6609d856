-- When the lines of a matrix, below its opening line, write the entries v i j, 1 <= i <= j <= n, in each of the four
-- forms. Nothing is said of how the numbers are spelled, cut into lines or parted by blanks.
-- Assumes nothing.
use Rattle.std.specs.Prelude.{ℕ, zero, suc, ◌+◌, ◌-◌, ◌≤◌, ◌<◌, min, ◌≡◌, List, [], ◌∷◌, ◌++◌, map, unwrap_or}
use Rattle.table_layout.specs.Codes.{diagonal, banded, sparse, full}
use Rattle.lex_line.specs.Words.{words, first_of, second_of}
use Rattle.lex_number.specs.Number.{number_of, word_in}
use Rattle.lex_number.specs.Integer.{whole_of}
use Rattle.lex_number.specs.ValueWord.{zero_word}
use Rattle.lex_keyword.specs.Names.{row, bandwidth}
use Rattle.doc.specs.Lines.{Line, plain, key_of}
use Rattle.doc.specs.Document.{given_by, named_by}
use Rattle.doc.specs.Holds.{Each}
use Rattle.law_alike.specs.Written.{numbers_of}

-- the value word of a number as it is written
abbrev pub value_of : List ℕ → ℕ
value_of w = word_in (number_of w)

-- k entries of row i, from column j on
unfoldable pub along : (ℕ → ℕ → ℕ) → ℕ → ℕ → ℕ → List ℕ
along v i j zero = []
along v i j (suc k) = v i j ∷ along v i (suc j) k

-- k entries down the diagonal, from row i on
unfoldable pub down : (ℕ → ℕ → ℕ) → ℕ → ℕ → List ℕ
down v i zero = []
down v i (suc k) = v i i ∷ down v (suc i) k

-- lines without a keyword whose words are these numbers, one after another: "Numbers may run over lines"
pub record Says (ls : List Line) (numbers : List ℕ) : Type 0 where
  pub plainly : Each (λ (l : Line). key_of l ≡ plain) ls
  pub said : map value_of (numbers_of ls) ≡ numbers

-- "[Row] 1 to N in order", here from row i on; row i has `size i` numbers, diagonal first
pub data Rows (v : ℕ → ℕ → ℕ) (n : ℕ) (size : ℕ → ℕ) : ℕ → List Line → Type 0 where
  ended : {i : ℕ} → i ≡ suc n → Rows v n size i []
  next :
      {i : ℕ} {l : Line} {ls rest : List Line} → i ≤ n → key_of l ≡ row → given_by l ≡ i → Says ls (along v i i (size i)) →
      Rows v n size (suc i) rest → Rows v n size i (l ∷ (ls ++ rest))

-- "lines `column value`, columns rising", here from column c on; a column that no line has is zero
pub data Pairs (v : ℕ → ℕ → ℕ) (n i : ℕ) : ℕ → List Line → Type 0 where
  ended : {c : ℕ} → ((j : ℕ) → c ≤ j → j ≤ n → v i j ≡ zero_word) → Pairs v n i c []
  pair :
      {c : ℕ} {l : Line} {ls : List Line} (j : ℕ) → c ≤ j → j ≤ n → key_of l ≡ plain →
      unwrap_or (whole_of (first_of (words l.content))) 0 ≡ j → value_of (second_of (words l.content)) ≡ v i j →
      ((k : ℕ) → c ≤ k → k < j → v i k ≡ zero_word) → Pairs v n i (suc j) ls → Pairs v n i c (l ∷ ls)

-- "rising [Row]s", here from row i on; the entries of a row that is not there are zero
pub data SparseRows (v : ℕ → ℕ → ℕ) (n : ℕ) : ℕ → List Line → Type 0 where
  ended : {i : ℕ} → ((a b : ℕ) → i ≤ a → a ≤ b → b ≤ n → v a b ≡ zero_word) → SparseRows v n i []
  next :
      {i : ℕ} {l : Line} {ls rest : List Line} (r : ℕ) → i ≤ r → r ≤ n → key_of l ≡ row → given_by l ≡ r →
      ((a b : ℕ) → i ≤ a → a < r → a ≤ b → b ≤ n → v a b ≡ zero_word) → Pairs v n r r ls → SparseRows v n (suc r) rest →
      SparseRows v n i (l ∷ (ls ++ rest))

-- a line of a Sparse_matrix names this row or column
pub data Names (n : ℕ) : List Line → Type 0 where
  here : {l : Line} {ls : List Line} → named_by sparse l ≡ n → Names n (l ∷ ls)
  later : {l : Line} {ls : List Line} → Names n ls → Names n (l ∷ ls)

-- the lines write the entries in the form; an entry that the form has no place for must be zero
pub data Carries (v : ℕ → ℕ → ℕ) (n : ℕ) : ℕ → List Line → Type 0 where
  -- "Diagonal_matrix: N numbers, no [Row]"
  diagonally :
      {body : List Line} → Says body (down v 1 n) → ((i j : ℕ) → 1 ≤ i → i < j → j ≤ n → v i j ≡ zero_word) →
      Carries v n diagonal body
  -- "Full_matrix: .. row i has N-i+1 numbers"
  fully : {body : List Line} → Rows v n (λ (i : ℕ). n - i + 1) 1 body → Carries v n full body
  -- "Banded_matrix: [Bandwidth] B, .. row i has 1+min(B, N-i)"
  in_a_band :
      {l : Line} {body : List Line} (b : ℕ) → key_of l ≡ bandwidth → given_by l ≡ b → Rows v n (λ (i : ℕ). 1 + min b (n - i)) 1 body →
      ((i j : ℕ) → 1 ≤ i → i + b < j → j ≤ n → v i j ≡ zero_word) → Carries v n banded (l ∷ body)
  -- "Sparse_matrix: rising [Row]s .. N is the greatest row or column named"
  sparsely : {body : List Line} → SparseRows v n 1 body → Names n body → Carries v n sparse body
