-- What holds of the fresh-table maker on all octets, said plainly. All of it follows from Fresh.antt.
use Rattle.std.specs.Prelude.{ℕ, ◌≤◌, ◌<◌, ◌≡◌, true, false, ◌⊎◌, List}
use Rattle.link.specs.Fresh.{fresh_link}
use Rattle.record.specs.LinkRecord.{well_formed, octets_of}
use Rattle.step.specs.Step.{bad_table, records, record_at}
use Rattle.sscf.specs.Fresh.{fresh_call}

-- A refusal changes nothing; else every record is that of a fresh link, and well-formed.
abbrev pub FreshRefusalsUntouched : Type 0
FreshRefusalsUntouched = (t : List ℕ) (n1 : ℕ) → 1 ≤ (fresh_call t n1).answer.refusal → (fresh_call t n1).table ≡ t

abbrev pub AllFresh : Type 0
AllFresh = (t : List ℕ) (n1 k : ℕ) → (fresh_call t n1).answer.refusal ≡ 0 → k < records t → record_at (fresh_call t n1).table k ≡ octets_of (fresh_link n1)

abbrev pub FreshWellFormed : Type 0
FreshWellFormed = (t : List ℕ) (n1 k : ℕ) → (fresh_call t n1).answer.refusal ≡ 0 → k < records t → well_formed (record_at (fresh_call t n1).table k) ≡ true

-- Its place is 14 exactly with 11, which is given exactly if n1 is 0 and the table is not refused; else it is 0, and the number is 0 or 1.
abbrev pub FreshPlace : Type 0
FreshPlace =
    (t : List ℕ) (n1 : ℕ) → let a = (fresh_call t n1).answer in
    ((a.refusal ≡ 11) × (a.place ≡ 14) × (n1 ≡ 0) × (bad_table t ≡ false)) ⊎ ((a.refusal ≤ 1) × (a.place ≡ 0) × (n1 ≡ 0 → bad_table t ≡ true))
