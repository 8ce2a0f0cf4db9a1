-- What holds of a stretch of calls, whatever it began with (own choice).
module _ {S T : Type 0} where
  -- it holds of any pipes and ends that the stretch began with
  abbrev pub SinceBegan : (began : S → T → Type 0) → (S → T → Type 0) → Type 0
  SinceBegan began holds = (s : S) (t : T) → began s t → holds s t
