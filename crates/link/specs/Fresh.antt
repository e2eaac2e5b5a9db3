-- A link before its first event (document 01): state 1/1/1, LPO 0, UPS Normal, MPS Neutral, the INS flag 0. No timer runs, no BSNT is known, C1 is 0. It is not
-- congested, and no release was sent (2026-07).
use Rattle.std.specs.Prelude.{ℕ, false}
use Rattle.unit.specs.declared.Mps.{Mps}
use Rattle.unit.specs.declared.Ups.{Ups}
use Rattle.table6.specs.Words.{1/1/1}
use Rattle.link.specs.declared.Link.{Link}
use Rattle.link.specs.Effect.{not_retrievable}

abbrev pub fresh_link : ℕ → Link
fresh_link n1 =
    record {
      state = 1/1/1;
      ins = false;
      lpo = false;
      mps = Mps.Neutral;
      ups = Ups.Normal;
      t1 = false;
      t2 = false;
      t3 = false;
      bsnt = not_retrievable;
      c1 = 0;
      n1 = n1;
      congested = false;
      last = 0;
    }
