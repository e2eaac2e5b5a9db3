-- No second answer fits the promise of any of the calls: the answer and every octet lent are fixed by the octets handed in. Nor does one that of what a refusal answers.
-- Assumes nothing.
use Rattle.unit.specs.OneAnswer.{OneReading, OneAnswer}
use Rattle.unit.proofs.OneAnswer.{equal}
use Rattle.step.specs.Step.{Outcome, answering}
use Rattle.sscf.specs.Burst.{BurstOutcome, bursting}
use Rattle.sscf.specs.Fresh.{Made, making}
use Rattle.sscf.proofs.sscf_burst.Kinds as burst-kinds
use Rattle.sscf.proofs.sscf_burst.Reads as burst
use Rattle.sscf.proofs.sscf_step.Kinds as step-kinds
use Rattle.sscf.proofs.sscf_step.Reads as step
use Rattle.sscf.proofs.sscf_fresh.Kinds as fresh-kinds
use Rattle.sscf.proofs.sscf_fresh.Reads as fresh
use Rattle.sscf.proofs.sscf_version.Kinds as version-kinds
use Rattle.sscf.proofs.sscf_version.Reads as version
use Rattle.sscf.proofs.BurstAnswerFromRefusal.from.Kinds as burst-refused-kinds
use Rattle.sscf.proofs.BurstAnswerFromRefusal.from.Reads as burst-refused
use Rattle.sscf.proofs.FreshAnswerFromRefusal.from.Kinds as fresh-refused-kinds
use Rattle.sscf.proofs.FreshAnswerFromRefusal.from.Reads as fresh-refused

pub step_one : OneReading step-kinds.ps step-kinds.r Outcome (λ κs arguments x e. answering x e.0.now e.1.1.0.now) step.Post
step_one κs arguments x y e f = equal

pub burst_one :
    OneReading burst-kinds.ps burst-kinds.r BurstOutcome (λ κs arguments x e. bursting x e.0.now e.1.1.0.now e.1.1.1.0.now) burst.Post
burst_one κs arguments x y e f = equal

pub fresh_one : OneReading fresh-kinds.ps fresh-kinds.r Made (λ κs arguments x e. making x e.0.now) fresh.Post
fresh_one κs arguments x y e f = equal

pub version_one : OneAnswer version-kinds.ps version-kinds.r version.Post
version_one κs arguments x y e f = equal

-- of the conversions of a refusal
pub burst_refused_one : OneAnswer burst-refused-kinds.ps burst-refused-kinds.r burst-refused.Post
burst_refused_one κs arguments x y e f = equal

pub fresh_refused_one : OneAnswer fresh-refused-kinds.ps fresh-refused-kinds.r fresh-refused.Post
fresh_refused_one κs arguments x y e f = equal
