-- That a promise fits one answer alone.
use Rattle.std.specs.Prelude.{ℕ, ◌≡◌, List}
use seplogic.Ra.Ura.{Ura}
use base.Logic.{SProp, ent, sep}
use prog.Memory.{Memory}
use prog.Routine.{Routine}
use types.Logic.{Logic}
use contract.Lifetimes.{Lfts}
use contract.Monad.{Fun, fact}
use denote.Triple.Entry.{Args, Res}
use denote.Triple.Clauses.{Ended, AtExit, Clauses}
use borrow.Fn.Kinds.{ParamKind, ResultKind, Out, Dens, res_t, ended_of}

-- A promise is a function's whole `ensures`, as Rattle reads it: a claim on the arguments, the answer and what was lent, at exit. Whatever two answers
-- meet it on the same arguments, they are one in what is read off them and off what was lent.
abbrev pub OneReading : {n : ℕ} (ps : List (ParamKind n)) (r : ResultKind n) (X : Type 0) →
    ((κs : Lfts n) → Dens κs ps → (res_t r κs).Denot → AtExit (ended_of n ps r) κs → X) → Out n ps r → Type 0
OneReading {n} ps r X read Promise =
    (κs : Lfts n) (arguments : Dens κs ps) (x y : (res_t r κs).Denot) (e f : AtExit (ended_of n ps r) κs) →
    Promise κs arguments x e → Promise κs arguments y f → read κs arguments x e ≡ read κs arguments y f

-- The answers themselves are one.
abbrev pub OneAnswer : {n : ℕ} (ps : List (ParamKind n)) (r : ResultKind n) → Out n ps r → Type 0
OneAnswer {n} ps r Promise =
    (κs : Lfts n) (arguments : Dens κs ps) (x y : (res_t r κs).Denot) (e f : AtExit (ended_of n ps r) κs) →
    Promise κs arguments x e → Promise κs arguments y f → x ≡ y

-- The same of a function to which a record is lent, whose promise Rattle reads only in its logic: in every model, where the promise holds of two answers on
-- the same arguments, they are one in what is read off them and off what was lent.
abbrev pub OneHeld : (T : Ended) (X : Type 0) → ((κs : Lfts T.signature.lifetimes) → Args T.signature κs → Res T.signature κs → AtExit T κs → X) →
    ((M : Type 1) (𝓤 : Ura M) (𝓛 : Logic 𝓤) (mem : Memory → SProp 𝓤) (run : Routine → Fun 𝓤) → Clauses 𝓤 T) → Type 2
OneHeld T X read promise =
    (M : Type 1) (𝓤 : Ura M) (𝓛 : Logic 𝓤) (mem : Memory → SProp 𝓤) (run : Routine → Fun 𝓤)
    (κs : Lfts T.signature.lifetimes) (a : Args T.signature κs) (g : (promise M 𝓤 𝓛 mem run κs a).ghost)
    (x y : Res T.signature κs) (e f : AtExit T κs) →
    ent 𝓤 (sep 𝓤 ((promise M 𝓤 𝓛 mem run κs a).ensures g x e) ((promise M 𝓤 𝓛 mem run κs a).ensures g y f)) (fact 𝓤 (read κs a x e ≡ read κs a y f))
