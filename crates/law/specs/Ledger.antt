-- What a trace tells of each transaction, process and object. A transaction goes by its number among the begins, from 0.
-- Lists have the newest first.
use Rattle.std.specs.Prelude.{ℕ, suc, Bool, true, false, cond, ◌&&◌, ◌||◌, List, [], ◌∷◌, length, Some, None, Option, ◌==◌}
use Rattle.tables.specs.declared.reply.Answer.{Answer}
use Rattle.tables.specs.declared.reply.Answer.TheVariants.{Begun, Written, Committed, Aborted, Withdrawn}
use Rattle.tables.specs.declared.reply.Answer.TheVariants as answer
use Rattle.tables.specs.declared.reply.Conflict.{Conflict}
use Rattle.tables.specs.declared.reply.Effect.{Effect}
use Rattle.tables.specs.declared.reply.Effect.TheVariants.{Nothing, Took, Sealed, Stored, Freed}
use Rattle.tables.specs.declared.reply.Request.{Request}
use Rattle.tables.specs.declared.reply.Request.TheVariants.{Begin, Read, Write, Commit, Withdraw}
use Rattle.law.specs.Trace.{Act, Entry, Trace}
use Rattle.law.specs.Trace.Act.{placed, made}

-- Of a request: whether it is a begin or a commit, and the object that it reads.
pub record RequestFacts : Type 0 where
  pub begins : Bool
  pub commits : Bool
  pub reads : Option ℕ

abbrev pub of_request : {K : Type 0} → Request K → RequestFacts
of_request Begin = record { begins = true; commits = false; reads = None }
of_request (Read x) = record { begins = false; commits = false; reads = Some x }
of_request (Write x v) = record { begins = false; commits = false; reads = None }
of_request Commit = record { begins = false; commits = true; reads = None }
of_request Withdraw = record { begins = false; commits = false; reads = None }

-- Of a step's effect: whether it seals, and the object that it takes hold of, stores or frees.
pub record EffectFacts : Type 0 where
  pub seals : Bool
  pub takes : Option ℕ
  pub stores : Option ℕ
  pub frees : Option ℕ

abbrev pub of_effect : Effect → EffectFacts
of_effect Nothing = record { seals = false; takes = None; stores = None; frees = None }
of_effect (Took x) = record { seals = false; takes = Some x; stores = None; frees = None }
of_effect Sealed = record { seals = true; takes = None; stores = None; frees = None }
of_effect (Stored x) = record { seals = false; takes = None; stores = Some x; frees = None }
of_effect (Freed x) = record { seals = false; takes = None; stores = None; frees = Some x }

-- Of an answer: whether it is begun or committed, whether it ends the transaction, the content that a read got, the conflict
-- of an abort, and the steps that the request took.
pub record AnswerFacts (K : Type 0) : Type 0 where
  pub begun : Bool
  pub commits : Bool
  pub ends : Bool
  pub content : Option K
  pub conflict : Option Conflict
  pub steps : Option ℕ

abbrev pub of_answer : {K : Type 0} → Option (Answer K) → AnswerFacts K
of_answer None = record { begun = false; commits = false; ends = false; content = None; conflict = None; steps = None }
of_answer (Some (Begun n)) = record { begun = true; commits = false; ends = false; content = None; conflict = None; steps = Some n }
of_answer (Some (answer.Read v n)) = record { begun = false; commits = false; ends = false; content = Some v; conflict = None; steps = Some n }
of_answer (Some (Written n)) = record { begun = false; commits = false; ends = false; content = None; conflict = None; steps = Some n }
of_answer (Some (Committed n)) = record { begun = false; commits = true; ends = true; content = None; conflict = None; steps = Some n }
of_answer (Some (Aborted c n)) = record { begun = false; commits = false; ends = true; content = None; conflict = Some c; steps = Some n }
of_answer (Some (Withdrawn n)) = record { begun = false; commits = false; ends = true; content = None; conflict = None; steps = Some n }

-- Who made a version: the opening, or a transaction.
pub data Maker : Type 0 where
  opening : Maker
  by : ℕ → Maker

-- Where a read finds its content: in a version, or among the pending contents of its own transaction.
pub data Found : Type 0 where
  version : Maker → Found
  pending : Found

-- A read that was answered: its object, what its first step found, what it answered and when.
pub record Reading (K : Type 0) : Type 0 where
  pub object : ℕ
  pub found : Found
  pub content : K
  pub at : ℕ

-- A transaction became the holder of an object: over whose version, and when.
pub record Hold : Type 0 where
  pub object : ℕ
  pub over : Maker
  pub at : ℕ

-- What a process has in hand: nothing, or a request, the steps that it has made, and what the first step of a read found.
pub data Desk (K : Type 0) : Type 0 where
  free : Desk K
  asked : Request K → ℕ → Option Found → Desk K

abbrev pub first : {A : Type 0} → Option A → A → A
first (Some a) b = a
first None b = b

abbrev pub is : Option ℕ → ℕ → Bool
is (Some a) b = a == b
is None b = false

abbrev pub among : ℕ → List ℕ → Bool
among x [] = false
among x (y ∷ ys) = x == y || among x ys

-- one more element, if there is one and the test holds
abbrev pub push : {A : Type 0} → Option A → Bool → List A → List A
push None b xs = xs
push (Some a) b xs = cond b (a ∷ xs) xs

-- the maker of an object's last version, by the makers of all its versions
abbrev pub latest : List ℕ → Maker
latest [] = opening
latest (t ∷ ts) = by t

module _ {K : Type 0} where
  abbrev pub request_of : Act K → Option (Request K)
  request_of (placed r) = Some r
  request_of (made z) = None

  abbrev pub begins : Act K → Bool
  begins (placed r) = (of_request r).begins
  begins (made z) = false

  abbrev pub effect_of : Act K → EffectFacts
  effect_of (placed r) = of_effect Nothing
  effect_of (made z) = of_effect z.effect

  abbrev pub answer_of : Act K → AnswerFacts K
  answer_of (placed r) = of_answer None
  answer_of (made z) = of_answer z.answer

  -- how many transactions there are
  abbrev pub count : Trace K → ℕ
  count [] = 0
  count (l ∷ j) = cond (begins l.act) (suc (count j)) (count j)

  -- the transaction that a process began last
  abbrev pub whose : Trace K → ℕ → Option ℕ
  whose [] p = None
  whose (l ∷ j) p = cond (begins l.act && l.process == p) (Some (count j)) (whose j p)

  -- the entry l, made after j, is one of transaction t
  abbrev pub belongs : Entry K → Trace K → ℕ → Bool
  belongs l j t = is (whose (l ∷ j) l.process) t

  -- the time of t's first entry of a sort
  abbrev pub first_at : (Act K → Bool) → Trace K → ℕ → Option ℕ
  first_at f [] t = None
  first_at f (l ∷ j) t = cond (f l.act && belongs l j t) (Some (first (first_at f j t) (length j))) (first_at f j t)

  abbrev pub placed_at : Trace K → ℕ → Option ℕ
  placed_at = first_at begins

  abbrev pub begun_at : Trace K → ℕ → Option ℕ
  begun_at = first_at (λ a. (answer_of a).begun)

  -- a transaction is sealed by its sealing step or, with nothing to write, by the answer
  abbrev pub sealed_at : Trace K → ℕ → Option ℕ
  sealed_at = first_at (λ a. (effect_of a).seals || (answer_of a).commits)

  abbrev pub ended_at : Trace K → ℕ → Option ℕ
  ended_at = first_at (λ a. (answer_of a).ends)

  -- when t stored x, and when it freed x
  abbrev pub stored_at : Trace K → ℕ → ℕ → Option ℕ
  stored_at j t x = first_at (λ a. is (effect_of a).stores x) j t

  abbrev pub freed_at : Trace K → ℕ → ℕ → Option ℕ
  freed_at j t x = first_at (λ a. is (effect_of a).frees x) j t

  -- the requests of t
  abbrev pub requests : Trace K → ℕ → List (Request K)
  requests [] t = []
  requests (l ∷ j) t = push (request_of l.act) (belongs l j t) (requests j t)

  -- the objects that t became the holder of
  abbrev pub taken : Trace K → ℕ → List ℕ
  taken [] t = []
  taken (l ∷ j) t = push (effect_of l.act).takes (belongs l j t) (taken j t)

  -- the process's transaction has become the holder of x
  abbrev pub wrote : Trace K → Option ℕ → ℕ → Bool
  wrote j None x = false
  wrote j (Some t) x = among x (taken j t)

  -- the makers of an object's versions, without the opening: sealing makes a version of each object that was written
  abbrev pub makers : Trace K → ℕ → List ℕ
  makers [] x = []
  makers (l ∷ j) x =
      cond (effect_of l.act).seals (push (whose j l.process) (wrote j (whose j l.process) x) (makers j x)) (makers j x)

  abbrev pub hold : Trace K → Option ℕ → Option Hold
  hold j None = None
  hold j (Some x) = Some (record { object = x; over = latest (makers j x); at = length j })

  abbrev pub holds : Trace K → ℕ → List Hold
  holds [] t = []
  holds (l ∷ j) t = push (hold j (effect_of l.act).takes) (belongs l j t) (holds j t)

  -- what a look at x finds: the pending content if the process's transaction has written x, else the last version
  abbrev pub sight : Trace K → Option ℕ → ℕ → Found
  sight j o x = cond (wrote j o x) pending (version (latest (makers j x)))

  -- what a step of a read of x finds, after what earlier steps found; o is the process's transaction
  abbrev pub finds : Trace K → Option ℕ → Option ℕ → Option Found → Option Found
  finds j o None f = None
  finds j o (Some x) f = Some (first f (sight j o x))

  -- what is in hand after a step, by its answer
  abbrev pub desk_on : Trace K → Option ℕ → Desk K → Option (Answer K) → Desk K
  desk_on j o d (Some a) = free
  desk_on j o free None = free
  desk_on j o (asked r n f) None = asked r (suc n) (finds j o (of_request r).reads f)

  abbrev pub desk_after : Trace K → Option ℕ → Desk K → Act K → Desk K
  desk_after j o d (placed r) = asked r 0 None
  desk_after j o d (made z) = desk_on j o d z.answer

  abbrev pub desk : Trace K → ℕ → Desk K
  desk [] p = free
  desk (l ∷ j) p = cond (l.process == p) (desk_after j (whose j p) (desk j p) l.act) (desk j p)

  -- a step of a commit
  abbrev pub certifies : Desk K → Act K → Bool
  certifies d (placed r) = false
  certifies free (made z) = false
  certifies (asked r n f) (made z) = (of_request r).commits

  -- when certification began: the first step of a commit
  abbrev pub certified_at : Trace K → ℕ → Option ℕ
  certified_at [] t = None
  certified_at (l ∷ j) t =
      cond (certifies (desk j l.process) l.act && belongs l j t) (Some (first (certified_at j t) (length j))) (certified_at j t)

  -- the read that an answered content completes
  abbrev pub reading_of : Trace K → Option ℕ → Option Found → K → Option (Reading K)
  reading_of j None f v = None
  reading_of j (Some x) None v = None
  reading_of j (Some x) (Some f) v = Some (record { object = x; found = f; content = v; at = length j })

  abbrev pub reading : Trace K → Option ℕ → Desk K → Option K → Option (Reading K)
  reading j o d None = None
  reading j o free (Some v) = None
  reading j o (asked r n f) (Some v) = reading_of j (of_request r).reads (finds j o (of_request r).reads f) v

  -- the reads of t that were answered
  abbrev pub readings : Trace K → ℕ → List (Reading K)
  readings [] t = []
  readings (l ∷ j) t =
      push (reading j (whose j l.process) (desk j l.process) (answer_of l.act).content) (belongs l j t) (readings j t)
