-- What insert, remove and check answer and leave (Outcome), what trail does (Trail), and what the calls of a sale answer (Sale): the definitions. Then their
-- laws: for all inputs (Laws), and for a dictionary that holds a set (Held); demands 1 and 2, each as one theorem (Demands); both of the trail (TrailLaws) and of
-- sales (SaleLaws); and document 01's board as calls (Board).
pub mod Outcome
pub mod Laws
pub mod Held
pub mod Demands
pub mod Trail
pub mod TrailLaws
pub mod Sale
pub mod SaleLaws
