-- What is answered of a design's nets.
use Rattle.std.specs.Prelude.{◌≡◌, ◌⊎◌, Result, Ok, Err}
use Rattle.book_design.specs.Values.{DesignValue}
use Rattle.net_model.specs.declared.fault.NetFault.{NetFault}
use Rattle.net_model.specs.declared.fault.NetError.{NetError}
use Rattle.net_model.specs.declared.fault.NetError.TheVariants.{Fault, Memory}
use Rattle.net_model.specs.Values.{NetworkValue}
use Rattle.net_model.specs.Network.{IsNetwork, IsFirstFault}

-- An Ok is the network of a design without a fault, and a fault is the first one. Want of memory may come at any time.
abbrev pub Answers : DesignValue → Result NetworkValue NetError → Type 0
Answers design (Ok network) = IsNetwork design network
Answers design (Err (Fault fault)) = IsFirstFault design fault
Answers design (Err Memory) = Unit {0}

-- A design has exactly one network or exactly one first fault, never both.
pub record HasOneNetwork (design : DesignValue) : Type 0 where
  pub some : ((network : NetworkValue) × IsNetwork design network) ⊎ ((fault : NetFault) × IsFirstFault design fault)
  pub one_network : (a b : NetworkValue) → IsNetwork design a → IsNetwork design b → a ≡ b
  pub one_fault : (a b : NetFault) → IsFirstFault design a → IsFirstFault design b → a ≡ b
  pub not_both : (network : NetworkValue) (fault : NetFault) → IsNetwork design network → IsFirstFault design fault → ⊥
