-- Blocks of events one after the other; the later block stands first.
use Rattle.std.proofs.Common.{◌≡◌, ℕ, List, [], ◌∷◌, ◌++◌, sym, refl, ap, subst}
use Rattle.protocol.specs.Protocol.{Event, State, May, next, states, LawfulFrom}

pub joined : {K : Type 0} (s : State K) (fs es : List (Event K)) → states s (fs ++ es) ≡ states (states s es) fs
joined s [] es = refl
joined s (e ∷ fs) es = ap (λ (z : State _). next z e) (joined s fs es)

pub lawful_on : {K : Type 0} (P : ℕ) (s : State K) (fs es : List (Event K)) → LawfulFrom P s es → LawfulFrom P (states s es) fs → LawfulFrom P s (fs ++ es)
lawful_on P s [] es h k = h
lawful_on P s (e ∷ fs) es h k =
    (lawful_on P s fs es h k.0, subst (λ (z : State _). May P z e) (sym (joined s fs es)) k.1)
