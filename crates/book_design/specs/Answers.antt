-- What the join of the files answers.
use Rattle.std.specs.Prelude.{◌≡◌, ◌⊎◌, Result, Ok, Err}
use Rattle.book_design.specs.declared.fault.JoinError.{JoinError}
use Rattle.book_design.specs.declared.fault.JoinError.TheVariants.{Fault, Memory}
use Rattle.book_design.specs.declared.fault.DesignFault.{DesignFault}
use Rattle.book_design.specs.Records.{Records}
use Rattle.book_design.specs.Faults.{IsFirstFault, HasNoFault}
use Rattle.book_design.specs.Joined.{Joins}
use Rattle.book_design.specs.Values.{DesignValue}

-- the files make the design, and have no fault
pub record IsJoined (records : Records) (design : DesignValue) : Type 0 where
  pub joins : Joins records design
  pub none : HasNoFault records

-- An Ok is the design that the files make where they have no fault, and a fault is their first one. Want of memory may come at any time.
abbrev pub Answers : Records → Result DesignValue JoinError → Type 0
Answers records (Ok design) = IsJoined records design
Answers records (Err (Fault fault)) = IsFirstFault records fault
Answers records (Err Memory) = Unit {0}

-- The files make a design or have a first fault, one alone and never both.
pub record HasOneJoin (records : Records) : Type 0 where
  pub some : ((design : DesignValue) × IsJoined records design) ⊎ ((fault : DesignFault) × IsFirstFault records fault)
  pub one_design : (a b : DesignValue) → IsJoined records a → IsJoined records b → a ≡ b
  pub one_fault : (a b : DesignFault) → IsFirstFault records a → IsFirstFault records b → a ≡ b
  pub not_both : (design : DesignValue) (fault : DesignFault) → IsJoined records design → IsFirstFault records fault → ⊥
