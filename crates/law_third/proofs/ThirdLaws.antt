-- The third demand holds for every text that the intake accepts and the table that it leaves.
-- Assumes nothing.
use mathlib.Core.List.{List}
use Prim.Native.Nat.{ℕ}
use Rattle.doc.specs.Document.{document_of}
use Rattle.law_alike.specs.Alike.{Alike}
use Rattle.law_alike.specs.Way.Same.{SameDocument}
use Rattle.law_alike.proofs.MatrixLaws.{documents_alike}
use Rattle.law_demands.proofs.AcceptedLaws as accepted
use Rattle.law_third.specs.Third.{AcceptedTable, SameAnswers, Third}
use Rattle.law_third.proofs.EntryLaws.{entries_shown}
use Rattle.law_third.proofs.EntrySameLaws.{entries_same}
use Rattle.law_third.proofs.TakenLaws.{taken_passed}
use Rattle.law_third.proofs.WalkLaws.{walks_shown}
use Rattle.law_third.proofs.WalkSameLaws.{walks_same}

answers_same : (t table u other : List ℕ) → AcceptedTable t table → AcceptedTable u other → Alike t u → SameAnswers t table u other
answers_same t table u other taken others alike =
    let p : accepted.Taken t _ = taken_passed t table taken in
    let q : accepted.Taken u _ = taken_passed u other others in
    let d : SameDocument (document_of t) (document_of u) = documents_alike t u p.counts q.counts p.reads q.reads alike in
    record { walks = walks_same t table u other taken others d; entries = entries_same t table u other taken others d }

pub third : (t table : List ℕ) → AcceptedTable t table → Third t table
third t table taken =
    record {
      walks = walks_shown t table taken;
      entries = entries_shown t table taken;
      others = λ u other others alike. answers_same t table u other taken others alike;
    }
