-- Rectangles around pins.
use Rattle.std.specs.Prelude.{List, map, ℤ, ◌≤ℤ◌, ◌-ℤ◌, All}
use Rattle.book_design.specs.declared.parts.Pin.{Pin}
use Rattle.book_design.specs.Values.{DesignValue}
use Rattle.wire_report.specs.declared.corner.Corner.{Corner}
use Rattle.wire_report.specs.Wire.{pin_x, pin_y, greatest, least}

pub record Rectangle : Type 0 where
  pub left : ℤ
  pub right : ℤ
  pub lower : ℤ
  pub upper : ℤ

abbrev pub width : Rectangle → ℤ
width rectangle = rectangle.right -ℤ rectangle.left

abbrev pub height : Rectangle → ℤ
height rectangle = rectangle.upper -ℤ rectangle.lower

-- the pin lies in the rectangle, or on its edge
pub record HasPin (design : DesignValue) (corners : List Corner) (rectangle : Rectangle) (pin : Pin) : Type 0 where
  pub left : rectangle.left ≤ℤ pin_x design corners pin
  pub right : pin_x design corners pin ≤ℤ rectangle.right
  pub lower : rectangle.lower ≤ℤ pin_y design corners pin
  pub upper : pin_y design corners pin ≤ℤ rectangle.upper

abbrev pub IsAround : DesignValue → List Corner → List Pin → Rectangle → Type 0
IsAround design corners pins rectangle = All (HasPin design corners rectangle) pins

-- it is around the pins, and each rectangle around them is at least as wide and as high
pub record IsSmallestAround (design : DesignValue) (corners : List Corner) (pins : List Pin) (rectangle : Rectangle) : Type 0 where
  pub around : IsAround design corners pins rectangle
  pub width : (other : Rectangle) → IsAround design corners pins other → width rectangle ≤ℤ width other
  pub height : (other : Rectangle) → IsAround design corners pins other → height rectangle ≤ℤ height other

-- from the least to the greatest x and y of the pins
abbrev pub rectangle_around : DesignValue → List Corner → List Pin → Rectangle
rectangle_around design corners pins = record {
  left = least (map (pin_x design corners) pins);
  right = greatest (map (pin_x design corners) pins);
  lower = least (map (pin_y design corners) pins);
  upper = greatest (map (pin_y design corners) pins);
}
