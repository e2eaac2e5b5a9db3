-- No second answer fits: of each function, private ones too, any two answers that meet the promise are equal. Assumes nothing.
use mathlib.Core.Path.{◌≡◌, ◌∙◌, sym, refl}
use Rattle.std.specs.Prelude.{Option, Result, Ok, Err}
use Rattle.std.specs.Result.{result_ok}
use Rattle.unit.specs.declared.Unnamed.{Unnamed}
use Rattle.unit.specs.OneAnswer.{OneAnswer}
use Rattle.unit.proofs.Status.code.Kinds as status-code-kinds
use Rattle.unit.proofs.Status.code.Reads as status-code
use Rattle.unit.proofs.StatusTryFromU8.try_from.Kinds as status-kinds
use Rattle.unit.proofs.StatusTryFromU8.try_from.Reads as status
use Rattle.unit.proofs.none_or_status.Kinds as none-or-status-kinds
use Rattle.unit.proofs.none_or_status.Reads as none-or-status
use Rattle.unit.proofs.write.Kinds as write-kinds
use Rattle.unit.proofs.write.Reads as write
use Rattle.unit.proofs.read.Kinds as read-kinds
use Rattle.unit.proofs.read.Reads as read
use Rattle.unit.proofs.StatusPartialEq.eq.Kinds as status-eq-kinds
use Rattle.unit.proofs.StatusPartialEq.eq.Reads as status-eq
use Rattle.unit.proofs.UnnamedPartialEq.eq.Kinds as unnamed-eq-kinds
use Rattle.unit.proofs.UnnamedPartialEq.eq.Reads as unnamed-eq
use Rattle.unit.proofs.MpsTryFromU8.try_from.Kinds as mps-kinds
use Rattle.unit.proofs.MpsTryFromU8.try_from.Reads as mps
use Rattle.unit.proofs.Mps.code.Kinds as mps-code-kinds
use Rattle.unit.proofs.Mps.code.Reads as mps-code
use Rattle.unit.proofs.Ups.code.Kinds as ups-code-kinds
use Rattle.unit.proofs.Ups.code.Reads as ups-code
use Rattle.unit.proofs.asks.Kinds as asks-kinds
use Rattle.unit.proofs.asks.Reads as asks
use Rattle.unit.proofs.generate_n1.Kinds as generate-n1-kinds
use Rattle.unit.proofs.generate_n1.Reads as generate-n1
use Rattle.unit.proofs.sscop_uu.Kinds as sscop-uu-kinds
use Rattle.unit.proofs.sscop_uu.Reads as sscop-uu

-- a promise that says what the answer equals
pub equal : {A : Type 0} {what x y : A} → x ≡ what → y ≡ what → x ≡ y
equal p q = p ∙ sym q

-- a promise that says what is named, or that nothing is: an error tells no more
pub one_named : {A : Type 0} {what : Option A} (x y : Result A Unnamed) → result_ok x ≡ what → result_ok y ≡ what → x ≡ y
one_named (Ok a) (Ok b) p q = cc
one_named (Ok a) (Err e) p q = absurd (cc)
one_named (Err e) (Ok b) p q = absurd (cc)
one_named (Err e) (Err f) p q = refl

pub status_code_one : OneAnswer status-code-kinds.ps status-code-kinds.r status-code.Post
status_code_one κs arguments x y e f = equal

pub status_named_one : OneAnswer status-kinds.ps status-kinds.r status.Post
status_named_one κs arguments x y e f = one_named x y

pub status_eq_one : OneAnswer status-eq-kinds.ps status-eq-kinds.r status-eq.Post
status_eq_one κs arguments x y e f = equal

pub unnamed_eq_one : OneAnswer unnamed-eq-kinds.ps unnamed-eq-kinds.r unnamed-eq.Post
unnamed_eq_one κs arguments x y e f = equal

pub mps_named_one : OneAnswer mps-kinds.ps mps-kinds.r mps.Post
mps_named_one κs arguments x y e f = one_named x y

pub none_or_status_one : OneAnswer none-or-status-kinds.ps none-or-status-kinds.r none-or-status.Post
none_or_status_one κs arguments x y e f = equal

pub write_one : OneAnswer write-kinds.ps write-kinds.r write.Post
write_one κs arguments x y e f = equal

pub read_one : OneAnswer read-kinds.ps read-kinds.r read.Post
read_one κs arguments x y e f = equal

pub mps_code_one : OneAnswer mps-code-kinds.ps mps-code-kinds.r mps-code.Post
mps_code_one κs arguments x y e f = equal

pub ups_code_one : OneAnswer ups-code-kinds.ps ups-code-kinds.r ups-code.Post
ups_code_one κs arguments x y e f = equal

pub asks_one : OneAnswer asks-kinds.ps asks-kinds.r asks.Post
asks_one κs arguments x y e f = equal

pub generate_n1_one : OneAnswer generate-n1-kinds.ps generate-n1-kinds.r generate-n1.Post
generate_n1_one κs arguments x y e f = equal

pub sscop_uu_one : OneAnswer sscop-uu-kinds.ps sscop-uu-kinds.r sscop-uu.Post
sscop_uu_one κs arguments x y e f = equal
