-- How the trail of a key is found: the walk through the words that closes on itself (Walk), and where its keys are cut off (Cut).
pub mod Walk
pub mod Cut
