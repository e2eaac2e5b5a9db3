-- No second answer fits, of each function that other crates can call and of those that write text for them: the length answered and every octet of the text. Assumes nothing.
use Prim.Native.Nat.{ℕ}
use mathlib.Core.List.{List}
use mathlib.Core.Path.{◌≡◌}
use Rattle.unit.specs.OneAnswer.{OneReading, OneAnswer}
use Rattle.unit.proofs.OneAnswer.{equal}
use Rattle.lines.specs.Text.{Added}
use Rattle.lines.proofs.text.Line.add.Kinds as add-kinds
use Rattle.lines.proofs.text.Line.add.Reads as add
use Rattle.lines.proofs.text.Line.number.Kinds as number-kinds
use Rattle.lines.proofs.text.Line.number.Reads as number
use Rattle.lines.proofs.text.Line.hexadecimal.Kinds as hexadecimal-kinds
use Rattle.lines.proofs.text.Line.hexadecimal.Reads as hexadecimal
use Rattle.lines.proofs.first_record.Kinds as first-record-kinds
use Rattle.lines.proofs.first_record.Reads as first-record
use Rattle.lines.proofs.event_line.Kinds as event-line-kinds
use Rattle.lines.proofs.event_line.Reads as event-line
use Rattle.lines.proofs.signal_line.Kinds as signal-line-kinds
use Rattle.lines.proofs.signal_line.Reads as signal-line
use Rattle.lines.proofs.link_line.Kinds as link-line-kinds
use Rattle.lines.proofs.link_line.Reads as link-line

one : {x t : List ℕ} {a r s : ℕ} {t₁ t₂ : List ℕ} → Added x t a r t₁ → Added x t a s t₂ → ◌≡◌ {A = ℕ × List ℕ} (r, t₁) (s, t₂)
one p q =
    let a = equal p.answer q.answer in
    let w = equal p.written q.written in
    λ i. (a i, w i)

-- of a line, its place and its text
pub add_one : OneReading add-kinds.ps add-kinds.r (ℕ × List ℕ) (λ κs arguments x e. (e.0.now.at, e.0.now.text.now)) add.Post
add_one κs arguments x y e f p q = one p.added q.added

pub number_one : OneReading number-kinds.ps number-kinds.r (ℕ × List ℕ) (λ κs arguments x e. (e.0.now.at, e.0.now.text.now)) number.Post
number_one κs arguments x y e f p q = one p.0.added q.0.added

pub hexadecimal_one : OneReading hexadecimal-kinds.ps hexadecimal-kinds.r (ℕ × List ℕ) (λ κs arguments x e. (e.0.now.at, e.0.now.text.now)) hexadecimal.Post
hexadecimal_one κs arguments x y e f p q = one p.added q.added

pub first_record_one : OneAnswer first-record-kinds.ps first-record-kinds.r first-record.Post
first_record_one κs arguments x y e f = equal

pub event_line_one : OneReading event-line-kinds.ps event-line-kinds.r (ℕ × List ℕ) (λ κs arguments x e. (x, e.0.now)) event-line.Post
event_line_one κs arguments x y e f p q = one p.0 q.0

pub signal_line_one : OneReading signal-line-kinds.ps signal-line-kinds.r (ℕ × List ℕ) (λ κs arguments x e. (x, e.0.now)) signal-line.Post
signal_line_one κs arguments x y e f p q = one p.0 q.0

pub link_line_one : OneReading link-line-kinds.ps link-line-kinds.r (ℕ × List ℕ) (λ κs arguments x e. (x, e.0.now)) link-line.Post
link_line_one κs arguments x y e f p q = one p.0 q.0
