-- The run is computed. Transaction 1 has two reads and no holds: object 1 of the opening first, then object 0 of transaction 0.
use Rattle.std.proofs.Common.{◌≡◌, ℕ, [], ◌∷◌, sym, refl, ap, ◌∙◌, subst, inl, inr, arith}
use Rattle.engine.specs.Sound.{refused}
use Rattle.law.specs.Ledger.{Maker, Reading, readings, holds}
use Rattle.law.specs.Ledger.Maker.{opening, by}
use Rattle.law.specs.Ledger.Found.{version}
use Rattle.law.specs.Law.{In, KnownTo, Fair}
use Rattle.journal.specs.Traces.Reached.{fresh}
use Rattle.worked.specs.Example.{run}
use Rattle.worked.proofs.example_meets_the_premises.Goals as goal

abbrev opening_read : Reading ℕ
opening_read = record { object = 1; found = version opening; content = 0; at = 9 }

abbrev bound_read : Reading ℕ
bound_read = record { object = 0; found = version (by 0); content = 7; at = 15 }

the_reads : readings run 1 ≡ bound_read ∷ opening_read ∷ []
unfolding refused
the_reads = refl

no_holds : holds run 1 ≡ []
unfolding refused
no_holds = refl

opening_by : {t : ℕ} → version opening ≡ version (by t) → ⊥
opening_by e = cc

by_0 : {t : ℕ} → version (by 0) ≡ version (by t) → 0 ≡ t
by_0 e = cc

-- the makers that transaction 1 met are the opening and transaction 0
met : (u : ℕ) → 0 ≡ u → (m : Maker) (r : Reading ℕ) → In r (bound_read ∷ opening_read ∷ []) → r.found ≡ version m → KnownTo run u m
met u e opening r i f = tt
met u e (by m) r (inl k) f = inl (sym (by_0 (sym (ap (λ q. q.found) k) ∙ f)) ∙ e)
met u e (by m) r (inr (inl k)) f = absurd (opening_by (sym (ap (λ q. q.found) k) ∙ f))
met u e (by m) r (inr (inr k)) f = absurd k

-- a read by which it is bound has the maker 0
bound : (u : ℕ) (r : Reading ℕ) → In r (bound_read ∷ opening_read ∷ []) → r.found ≡ version (by u) → 0 ≡ u
bound u r (inl k) f = by_0 (sym (ap (λ q. q.found) k) ∙ f)
bound u r (inr (inl k)) f = absurd (opening_by (sym (ap (λ q. q.found) k) ∙ f))
bound u r (inr (inr k)) f = absurd k

fair : Fair run 1
fair r u i f b =
    let e = bound u r (subst (λ l. In r l) the_reads i) f in
    record {
      of_reads = λ s m k l g. met u e m s (subst (λ l. In s l) the_reads k) g;
      of_holds = λ h k l. absurd (subst (λ l. In h l) no_holds k);
    }

pub returns : goal.returns
unfolding refused
returns c = (
  fresh (0 ∷ 0 ∷ []) 2 _ refl,
  record { written = refl; left = refl },
  refl,
  refl,
  refl,
  refl,
  refl,
  refl,
  refl,
  (bound_read, subst (λ l. In bound_read l) (sym the_reads) (inl refl), refl),
  (5, 11, refl, refl, omega arith),
  fair,
)
