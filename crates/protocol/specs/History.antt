-- What is on record of the versions: who made them, who read them and who became holder over them, and when transactions
-- began and ended. A version goes by the number of the seal that made it, from 1; 0 is the opening's.
use Rattle.std.specs.Prelude.{◌≡◌, ℕ, suc, Bool, false, cond, ◌||◌, ◌⊎◌, List, [], ◌∷◌, ◌==◌}
use Rattle.protocol.specs.Table.{put}
use Rattle.protocol.specs.Protocol.{Event}
use Rattle.protocol.specs.Protocol.Event.{begin, ready, look, check, extend, answer, own, write, certify, pass, seal, finish, move, store, fail, free, commit, close}

-- a transaction read a version of an object, or became holder over one
pub data Access : Type 0 where
  rd : ℕ → ℕ → Access
  ov : ℕ → ℕ → Access

pub data Mark : Type 0 where
  none : Mark
  some : ℕ → Mark

abbrev pub version : Access → ℕ
version (rd x j) = j
version (ov x j) = j

abbrev pub In : Access → List Access → Type 0
In c [] = ⊥
In c (d ∷ l) = (c ≡ d) ⊎ In c l

-- a log has x written
abbrev pub writes : List Access → ℕ → Bool
writes [] x = false
writes (rd y j ∷ l) x = writes l x
writes (ov y j ∷ l) x = y == x || writes l x

pub record History : Type 0 where
  pub now : ℕ
  -- transactions by number, in the order of their begins
  pub begun : ℕ
  pub current : ℕ → ℕ
  pub log : ℕ → List Access
  pub begun_at : ℕ → ℕ
  pub ended : ℕ → Mark
  -- how many seals there were when the begin was answered
  pub base : ℕ → ℕ
  -- seals, and which transaction made each
  pub seals : ℕ
  pub maker : ℕ → ℕ
  -- of an object: its newest version, and the version that the memory has
  pub latest : ℕ → ℕ
  pub stored : ℕ → ℕ
  -- the version of an object that a seal replaced
  pub over : ℕ → ℕ → Mark
  -- the version that a process took at its last look
  pub fetched : ℕ → ℕ

module _ {K : Type 0} where
  abbrev pub enter : History → Event K → History
  enter a (begin p) =
      record {
        now = suc a.now;
        begun = suc a.begun;
        current = put a.current p a.begun;
        log = a.log;
        begun_at = put a.begun_at a.begun a.now;
        ended = a.ended;
        base = a.base;
        seals = a.seals;
        maker = a.maker;
        latest = a.latest;
        stored = a.stored;
        over = a.over;
        fetched = a.fetched;
      }
  enter a (ready p c) =
      record {
        now = suc a.now;
        begun = a.begun;
        current = a.current;
        log = a.log;
        begun_at = a.begun_at;
        ended = a.ended;
        base = put a.base (a.current p) a.seals;
        seals = a.seals;
        maker = a.maker;
        latest = a.latest;
        stored = a.stored;
        over = a.over;
        fetched = a.fetched;
      }
  enter a (look p x v) =
      record {
        now = suc a.now;
        begun = a.begun;
        current = a.current;
        log = a.log;
        begun_at = a.begun_at;
        ended = a.ended;
        base = a.base;
        seals = a.seals;
        maker = a.maker;
        latest = a.latest;
        stored = a.stored;
        over = a.over;
        fetched = put a.fetched p (a.stored x);
      }
  enter a (check p x) =
      record {
        now = suc a.now;
        begun = a.begun;
        current = a.current;
        log = a.log;
        begun_at = a.begun_at;
        ended = a.ended;
        base = a.base;
        seals = a.seals;
        maker = a.maker;
        latest = a.latest;
        stored = a.stored;
        over = a.over;
        fetched = a.fetched;
      }
  enter a (extend p) =
      record {
        now = suc a.now;
        begun = a.begun;
        current = a.current;
        log = a.log;
        begun_at = a.begun_at;
        ended = a.ended;
        base = a.base;
        seals = a.seals;
        maker = a.maker;
        latest = a.latest;
        stored = a.stored;
        over = a.over;
        fetched = a.fetched;
      }
  enter a (own p x v) =
      record {
        now = suc a.now;
        begun = a.begun;
        current = a.current;
        log = a.log;
        begun_at = a.begun_at;
        ended = a.ended;
        base = a.base;
        seals = a.seals;
        maker = a.maker;
        latest = a.latest;
        stored = a.stored;
        over = a.over;
        fetched = a.fetched;
      }
  enter a (certify p) =
      record {
        now = suc a.now;
        begun = a.begun;
        current = a.current;
        log = a.log;
        begun_at = a.begun_at;
        ended = a.ended;
        base = a.base;
        seals = a.seals;
        maker = a.maker;
        latest = a.latest;
        stored = a.stored;
        over = a.over;
        fetched = a.fetched;
      }
  enter a (pass p x) =
      record {
        now = suc a.now;
        begun = a.begun;
        current = a.current;
        log = a.log;
        begun_at = a.begun_at;
        ended = a.ended;
        base = a.base;
        seals = a.seals;
        maker = a.maker;
        latest = a.latest;
        stored = a.stored;
        over = a.over;
        fetched = a.fetched;
      }
  enter a (finish p) =
      record {
        now = suc a.now;
        begun = a.begun;
        current = a.current;
        log = a.log;
        begun_at = a.begun_at;
        ended = a.ended;
        base = a.base;
        seals = a.seals;
        maker = a.maker;
        latest = a.latest;
        stored = a.stored;
        over = a.over;
        fetched = a.fetched;
      }
  enter a (move b) =
      record {
        now = suc a.now;
        begun = a.begun;
        current = a.current;
        log = a.log;
        begun_at = a.begun_at;
        ended = a.ended;
        base = a.base;
        seals = a.seals;
        maker = a.maker;
        latest = a.latest;
        stored = a.stored;
        over = a.over;
        fetched = a.fetched;
      }
  enter a (fail p r) =
      record {
        now = suc a.now;
        begun = a.begun;
        current = a.current;
        log = a.log;
        begun_at = a.begun_at;
        ended = a.ended;
        base = a.base;
        seals = a.seals;
        maker = a.maker;
        latest = a.latest;
        stored = a.stored;
        over = a.over;
        fetched = a.fetched;
      }
  enter a (free p x v) =
      record {
        now = suc a.now;
        begun = a.begun;
        current = a.current;
        log = a.log;
        begun_at = a.begun_at;
        ended = a.ended;
        base = a.base;
        seals = a.seals;
        maker = a.maker;
        latest = a.latest;
        stored = a.stored;
        over = a.over;
        fetched = a.fetched;
      }
  enter a (answer p x t v) =
      record {
        now = suc a.now;
        begun = a.begun;
        current = a.current;
        log = put a.log (a.current p) (rd x (a.fetched p) ∷ a.log (a.current p));
        begun_at = a.begun_at;
        ended = a.ended;
        base = a.base;
        seals = a.seals;
        maker = a.maker;
        latest = a.latest;
        stored = a.stored;
        over = a.over;
        fetched = a.fetched;
      }
  enter a (write p x v) =
      record {
        now = suc a.now;
        begun = a.begun;
        current = a.current;
        log = put a.log (a.current p) (ov x (a.stored x) ∷ a.log (a.current p));
        begun_at = a.begun_at;
        ended = a.ended;
        base = a.base;
        seals = a.seals;
        maker = a.maker;
        latest = a.latest;
        stored = a.stored;
        over = a.over;
        fetched = a.fetched;
      }
  enter a (seal p t b) =
      record {
        now = suc a.now;
        begun = a.begun;
        current = a.current;
        log = a.log;
        begun_at = a.begun_at;
        ended = a.ended;
        base = a.base;
        seals = suc a.seals;
        maker = put a.maker (suc a.seals) (a.current p);
        latest = λ x. cond (writes (a.log (a.current p)) x) (suc a.seals) (a.latest x);
        stored = a.stored;
        over = put a.over (suc a.seals) (λ x. cond (writes (a.log (a.current p)) x) (some (a.latest x)) none);
        fetched = a.fetched;
      }
  enter a (store p x v t) =
      record {
        now = suc a.now;
        begun = a.begun;
        current = a.current;
        log = a.log;
        begun_at = a.begun_at;
        ended = a.ended;
        base = a.base;
        seals = a.seals;
        maker = a.maker;
        latest = a.latest;
        stored = put a.stored x (a.latest x);
        over = a.over;
        fetched = a.fetched;
      }
  enter a (commit p t) =
      record {
        now = suc a.now;
        begun = a.begun;
        current = a.current;
        log = a.log;
        begun_at = a.begun_at;
        ended = put a.ended (a.current p) (some a.now);
        base = a.base;
        seals = a.seals;
        maker = a.maker;
        latest = a.latest;
        stored = a.stored;
        over = a.over;
        fetched = a.fetched;
      }
  enter a (close p) =
      record {
        now = suc a.now;
        begun = a.begun;
        current = a.current;
        log = a.log;
        begun_at = a.begun_at;
        ended = put a.ended (a.current p) (some a.now);
        base = a.base;
        seals = a.seals;
        maker = a.maker;
        latest = a.latest;
        stored = a.stored;
        over = a.over;
        fetched = a.fetched;
      }

  abbrev pub history : List (Event K) → History
  history [] =
      record {
        now = 0;
        begun = 0;
        current = λ p. 0;
        log = λ t. [];
        begun_at = λ t. 0;
        ended = λ t. none;
        base = λ t. 0;
        seals = 0;
        maker = λ j. 0;
        latest = λ x. 0;
        stored = λ x. 0;
        over = λ j x. none;
        fetched = λ p. 0;
      }
  history (e ∷ es) = enter (history es) e
