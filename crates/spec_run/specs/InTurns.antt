-- A run goes in turns (own choice): the clock is read before the first; at the start of each the root is looked at, and asked where each actor has finished; then each worker takes one step, and the clock is read. On one thread the steps are made in the order that the seed draws.
use Rattle.std.specs.Prelude.{◌≡◌, ◌≤◌, ◌==◌, ◌+◌, ◌&&◌, ◌||◌, ℕ, Bool, true, false, not, nat_le, List, [], ◌∷◌, ◌++◌, Some, flat_map, length, map, replicate, slice_index_or}
use Rattle.std.specs.List.{list_all, range_with_len}
use Rattle.spec_pattern.specs.PipeStep.{AreExact}
use Rattle.spec_control.specs.declared.object.ObjState.{ObjState}
use Rattle.spec_control.specs.declared.object.ObjState.TheVariants.{Live, Asked, Ended}
use Rattle.spec_control.specs.declared.request.Req.{Req}
use Rattle.spec_control.specs.declared.request.Req.TheVariants.{Socket as MakeSocket, AskTerm, Bind, Connect, Unbind, Disconnect, Close, Accepted, Shaken, AskEnd, AskOver, OutputOver}
use Rattle.spec_control.specs.declared.entry.Did.{Did}
use Rattle.spec_control.specs.declared.entry.Did.TheVariants.{Asked as DidAsk, Delivered, Delimited}
use Rattle.spec_control.specs.declared.entry.Item.{Item}
use Rattle.spec_control.specs.declared.entry.Item.TheVariants.{Event, Seen}
use Rattle.spec_control.specs.Held.{caller_of}
use Rattle.spec_control.specs.declared.entry.SeenEmpty.TheVariants.{Nothing, Reapers}
use Rattle.spec_control.specs.Control.{begun}
use Rattle.spec_run.specs.Turn.{IsOrder}
use Rattle.spec_control.specs.Moments.{Moment, moments_from, first_waiting}
use Rattle.spec_run.specs.Script.{Script}
use Rattle.spec_run.specs.Act.{Act, Deed, Tries, Shuts, Fetches, Idles, Works, Looks, AsksRoot, Reads, all_acts, steps_in, moments_in}
use Rattle.spec_run.specs.Event.{IsLookAt, TakesLetter}
use Rattle.spec_run.specs.Standing.{ActorStanding, standing_before, DoesTry, ShutsFirst, has_finished}
use Rattle.spec_run.specs.Worker.{AsksTheRoot}
use Rattle.spec_run.specs.OwnedRun.{OwnedRun, pipe_capacity, control_at_end}

abbrev pub is_live : ObjState → Bool
is_live Live = true
is_live Asked = false
is_live Ended = false

abbrev pub is_ended : ObjState → Bool
is_ended Live = false
is_ended Asked = false
is_ended Ended = true

-- a request asks the root
abbrev pub is_root_ask : Req → Bool
is_root_ask (MakeSocket kind options) = false
is_root_ask AskTerm = true
is_root_ask (Bind o at) = false
is_root_ask (Connect o at) = false
is_root_ask (Unbind o at) = false
is_root_ask (Disconnect o at) = false
is_root_ask (Close o) = false
is_root_ask (Accepted o) = false
is_root_ask (Shaken o peer) = false
is_root_ask (AskEnd e reason) = false
is_root_ask (AskOver o) = false
is_root_ask (OutputOver o) = false

-- a turn: what the conductor does at its start, the step of each other worker by its number, and the clock's reading at its end
pub record OneTurn (N S : Type 0) : Type 0 where
  pub begins : List (Deed N S)
  pub steps : List (List (Deed N S))
  pub reading : ℕ

-- the first reading, the turns, and the look at the root behind the last of them
pub record Turned (N S : Type 0) : Type 0 where
  pub first : ℕ
  pub turns : List (OneTurn N S)
  pub last : Moment N S

-- readings never fall
abbrev pub NeverFall : ℕ → List ℕ → Type 0
NeverFall x [] = Unit {0}
NeverFall x (y ∷ ys) = (x ≤ y) × NeverFall y ys

-- how many workers there are but the conductor
abbrev pub worker_count : Script → (io : ℕ) → ℕ
worker_count script io = length script + 1 + io

module _ {N S : Type 0} where
  -- an item is a caller's asking of the root, and one of the first so many callers
  abbrev pub asks_root_in : Did N S → Bool
  asks_root_in (DidAsk req reply h) = is_root_ask req
  asks_root_in (Delivered slot letter h) = false
  asks_root_in (Delimited e h) = false

  abbrev pub asks_root_by : (caller : ℕ) → Item N S → Bool
  asks_root_by caller (Event entry) = entry.by == caller && asks_root_in entry.did
  asks_root_by caller (Seen sight) = false

  -- behind the conductor's asking of the root no actor has an item
  abbrev pub asks_last : (actors conductor : ℕ) → List (Item N S) → Bool
  asks_last actors conductor [] = true
  asks_last actors conductor (item ∷ items) =
      (not (asks_root_by conductor item) || list_all (λ other. nat_le actors (caller_of other)) items) && asks_last actors conductor items

  -- the root is asked where this holds, and else it is not
  abbrev pub AsksIf : Bool → List (Deed N S) → Type 0
  AsksIf true asks = (acts : List (Act N S)) × AsksTheRoot acts × (asks ≡ AsksRoot acts ∷ [])
  AsksIf false asks = asks ≡ []

  -- a turn begins: a look finds that the root has not ended; where all have finished and the root was not asked, it is asked
  pub record LooksAndAsks (standings : List ActorStanding) (m : Moment N S) (asks : List (Deed N S)) : Type 0 where
    pub look : IsLookAt Nothing m
    pub goes_on : is_ended look.sight.root ≡ false
    pub asks_if : AsksIf (list_all has_finished standings && is_live look.sight.root) asks

  abbrev pub Begins : List ActorStanding → List (Deed N S) → Type 0
  Begins standings [] = ⊥
  Begins standings (Looks m ∷ asks) = LooksAndAsks standings m asks
  Begins standings (Tries t ∷ asks) = ⊥
  Begins standings (Shuts acts ∷ asks) = ⊥
  Begins standings (Fetches slot acts ∷ asks) = ⊥
  Begins standings (Idles m ∷ asks) = ⊥
  Begins standings (Works acts ∷ asks) = ⊥
  Begins standings (AsksRoot acts ∷ asks) = ⊥
  Begins standings (Reads now ∷ asks) = ⊥

  -- an actor tries its next line, or closes a socket that it has left, or has finished
  abbrev pub ActorStep : ActorStanding → List (Deed N S) → ActorStanding → Type 0
  ActorStep old [] new = (has_finished old ≡ true) × (new ≡ old)
  ActorStep old (Tries t ∷ []) new = DoesTry old t new
  ActorStep old (Shuts acts ∷ []) new = ShutsFirst old acts new
  ActorStep old (Fetches slot acts ∷ []) new = ⊥
  ActorStep old (Idles m ∷ []) new = ⊥
  ActorStep old (Works acts ∷ []) new = ⊥
  ActorStep old (Looks m ∷ []) new = ⊥
  ActorStep old (AsksRoot acts ∷ []) new = ⊥
  ActorStep old (Reads now ∷ []) new = ⊥
  ActorStep old (d ∷ e ∷ ds) new = ⊥

  -- the reaper takes one letter, of the first of its mailboxes that is not empty
  pub record TakesFirstWaiting (slot : ℕ) (acts : List (Act N S)) : Type 0 where
    pub takes : TakesLetter slot acts
    pub first : first_waiting takes.taken.found ≡ Some slot

  -- or finds all of them empty
  abbrev pub ReaperStep : List (Deed N S) → Type 0
  ReaperStep [] = ⊥
  ReaperStep (Fetches slot acts ∷ []) = TakesFirstWaiting slot acts
  ReaperStep (Idles m ∷ []) = IsLookAt Reapers m
  ReaperStep (Tries t ∷ []) = ⊥
  ReaperStep (Shuts acts ∷ []) = ⊥
  ReaperStep (Works acts ∷ []) = ⊥
  ReaperStep (Looks m ∷ []) = ⊥
  ReaperStep (AsksRoot acts ∷ []) = ⊥
  ReaperStep (Reads now ∷ []) = ⊥
  ReaperStep (d ∷ e ∷ ds) = ⊥

  -- each worker's step of a turn: the actors', the reaper's, and those of so many I/O workers
  abbrev pub AllStep : (io : ℕ) → List ActorStanding → List (List (Deed N S)) → List ActorStanding → Type 0
  AllStep io [] [] new = ⊥
  AllStep io [] (reaper ∷ serving) new = ReaperStep reaper × (serving ≡ replicate io []) × (new ≡ [])
  AllStep io (old ∷ olds) [] new = ⊥
  AllStep io (old ∷ olds) (step ∷ steps) [] = ⊥
  AllStep io (old ∷ olds) (step ∷ steps) (new ∷ news) = ActorStep old step new × AllStep io olds steps news

  -- the turns, one after another
  abbrev pub TurnsGo : (io : ℕ) → List ActorStanding → List (OneTurn N S) → List ActorStanding → Type 0
  TurnsGo io old [] new = new ≡ old
  TurnsGo io old (turn ∷ turns) new =
      Begins old turn.begins × ((mid : List ActorStanding) × AllStep io old turn.steps mid × TurnsGo io mid turns new)

  -- a worker's step in a turn
  abbrev pub turn_step : ℕ → OneTurn N S → List (Deed N S)
  turn_step w turn = slice_index_or turn.steps w []

  -- the clock's readings, in order
  abbrev pub readings_of : Turned N S → List ℕ
  readings_of t = t.first ∷ map (λ turn. turn.reading) t.turns

  -- the steps of the conductor: the first reading, what begins and ends each turn, and the last look
  abbrev pub conductor_steps : Turned N S → List (List (Deed N S))
  conductor_steps t = (Reads t.first ∷ []) ∷ (map (λ turn. turn.begins ++ Reads turn.reading ∷ []) t.turns ++ (Looks t.last ∷ []) ∷ [])

  -- the steps of each worker, of so many and the conductor
  abbrev pub workers_in : (count : ℕ) → Turned N S → List (List (List (Deed N S)))
  workers_in count t = map (λ w. map (turn_step w) t.turns) (range_with_len 0 count) ++ conductor_steps t ∷ []

  -- the run goes in turns, of which it may take so many
  pub record IsInTurns (script : Script) (io limit : ℕ) (t : Turned N S) (run : OwnedRun N S) : Type 0 where
    pub workers_are : run.workers ≡ workers_in (worker_count script io) t
    pub standings : List ActorStanding
    pub go : TurnsGo io (map standing_before script) t.turns standings
    pub few : length t.turns ≤ limit
    pub rising : NeverFall t.first (map (λ turn. turn.reading) t.turns)
    -- the conductor asks the root behind all that actors do
    pub asked_last : asks_last (length script) (worker_count script io) run.order ≡ true
    -- the run is over where the root has ended, and else after all its turns
    pub last : IsLookAt Nothing t.last
    pub over : is_ended last.sight.root ≡ false → length t.turns ≡ limit

  -- the orders of the turns' workers are drawn from a seed, where the last number drawn is x
  abbrev pub Draws : (seed : ℕ) → List ℕ → (x : ℕ) → List (OneTurn N S) → List (List ℕ) → Type 0
  Draws seed workers x [] orders = orders ≡ []
  Draws seed workers x (turn ∷ turns) [] = ⊥
  Draws seed workers x (turn ∷ turns) (order ∷ orders) =
      (after : ℕ) × IsOrder seed x workers order after × Draws seed workers after turns orders

  -- the deeds of a turn where the workers step in this order, and of turns
  abbrev pub turn_sequence : List ℕ → OneTurn N S → List (Deed N S)
  turn_sequence order turn = turn.begins ++ (flat_map (λ w. turn_step w turn) order ++ Reads turn.reading ∷ [])

  abbrev pub turns_sequence : List (List ℕ) → List (OneTurn N S) → List (Deed N S)
  turns_sequence [] turns = []
  turns_sequence (order ∷ orders) [] = []
  turns_sequence (order ∷ orders) (turn ∷ turns) = turn_sequence order turn ++ turns_sequence orders turns

  abbrev pub sequence : List (List ℕ) → Turned N S → List (Deed N S)
  sequence orders t = Reads t.first ∷ (turns_sequence orders t.turns ++ Looks t.last ∷ [])

  -- on one thread, the deeds are made one after another: their items are the order, and each look finds what was left
  pub record IsOneThread (seed : ℕ) (script : Script) (io : ℕ) (t : Turned N S) (run : OwnedRun N S) : Type 0 where
    pub orders : List (List ℕ)
    pub drawn : Draws seed (range_with_len 0 (worker_count script io)) seed t.turns orders
    pub one_order : moments_in (all_acts (sequence orders t)) ≡ moments_from (begun io) run.order
    pub exact : AreExact (pipe_capacity (control_at_end io run)) [] (steps_in (all_acts (sequence orders t)))
